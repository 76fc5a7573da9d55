use Rattle.std.proofs.Common.{arith}
use Rattle.std.proofs.lemmas.Simd.{zip2_splat}
use Rattle.tinyjson_bytes.specs.Characters.{is_white}
use Rattle.tinyjson_bytes.specs.Scan.{fails}
use Rattle.tinyjson_bytes.proofs.Scans.{other, each_of, masked}
use Rattle.tinyjson_bytes.proofs.runs.WhiteLanes.failing.Goals as goal

pub returns : goal.returns
returns c =
    let v = c.args.v in
    let long = c.fits-v.0 in
    masked _ (fails is_white) v _ (omega arith) c.fits-v.1
    (each_of _ _ v (each_of _ _ v (each_of _ _ v (zip2_splat other v 16 32 long) (zip2_splat other v 16 10 long))
    (zip2_splat other v 16 13 long)) (zip2_splat other v 16 9 long)) tt
