use Rattle.std.proofs.Common.{◌+◌, ◌-◌, ◌%◌, arith}
use Rattle.std.proofs.lemmas.Simd.{zip2_splat}
use Rattle.std.specs.Fmt.{is_char_start}
use Rattle.tinyjson_bytes.proofs.Callers.{at_most, from_splat, masked}
use Rattle.tinyjson_tokens.proofs.place.starts.Goals as goal

pub returns : goal.returns
returns c =
    let v = c.args.v in
    let long = c.fits-v.0 in
    masked _ is_char_start v _ (omega (arith, long)) c.fits-v.1 (from_splat at_most _ 64 16 v long
    (zip2_splat (λ a b. (a + (256 - b)) % 256) v 16 128 long)) tt
