use Rattle.std.proofs.Common.{arith}
use Rattle.std.proofs.lemmas.Simd.{zip2_splat}
use Rattle.tinyjson_bytes.proofs.Callers.{hit, masked}
use Rattle.tinyjson_grammar.specs.Position.{is_line_feed}
use Rattle.tinyjson_tokens.proofs.place.feeds.Goals as goal

pub returns : goal.returns
returns c =
    let v = c.args.v in
    masked _ is_line_feed v _ (omega (arith, c.fits-v.0)) c.fits-v.1 (zip2_splat hit v 16 10 c.fits-v.0) tt
