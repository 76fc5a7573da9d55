use Rattle.std.proofs.Common.{arith}
use Rattle.std.proofs.lemmas.Simd.{zip2_splat}
use Rattle.tinyjson_bytes.specs.Scan.{fails, is_plain}
use Rattle.tinyjson_bytes.proofs.Scans.{hit, below, either, masked}
use Rattle.tinyjson_bytes.proofs.plain.PlainLanes.failing.Goals as goal

pub returns : goal.returns
returns c =
    let v = c.args.v in
    let long = c.fits-v.0 in
    masked _ (fails is_plain) v _ (omega arith) c.fits-v.1
    (either _ _ v (either _ _ v (zip2_splat hit v 16 34 long) (zip2_splat hit v 16 92 long)) (zip2_splat below v 16 32 long)) tt
