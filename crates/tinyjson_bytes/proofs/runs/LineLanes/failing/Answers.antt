use Rattle.std.proofs.Common.{arith}
use Rattle.std.proofs.lemmas.Simd.{zip2_splat}
use Rattle.tinyjson_bytes.specs.Scan.{fails, is_in_line}
use Rattle.tinyjson_bytes.proofs.Scans.{hit, masked}
use Rattle.tinyjson_bytes.proofs.runs.LineLanes.failing.Goals as goal

pub returns : goal.returns
returns c =
    let v = c.args.v in
    let long = c.fits-v.0 in
    masked _ (fails is_in_line) v _ (omega arith) c.fits-v.1 (zip2_splat hit v 16 10 long) tt
