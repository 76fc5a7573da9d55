use Rattle.std.proofs.Common.{◌+◌, ◌-◌, ◌%◌, arith}
use Rattle.std.proofs.lemmas.Simd.{zip2_splat}
use Rattle.std.specs.Char.{is_ascii_digit}
use Rattle.tinyjson_bytes.specs.Scan.{fails}
use Rattle.tinyjson_bytes.proofs.Scans.{at_most, from_splat, masked}
use Rattle.tinyjson_bytes.proofs.runs.DigitLanes.failing.Goals as goal

pub returns : goal.returns
returns c =
    let v = c.args.v in
    let long = c.fits-v.0 in
    masked _ (fails is_ascii_digit) v _ (omega arith) c.fits-v.1 (from_splat at_most _ 10 16 v long
    (zip2_splat (λ a b. (a + (256 - b)) % 256) v 16 48 long)) tt
