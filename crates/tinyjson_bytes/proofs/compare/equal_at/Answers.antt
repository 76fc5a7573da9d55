use Rattle.std.proofs.Common.{arith}
use Rattle.std.proofs.lemmas.Simd.{length-chunk}
use Rattle.std.specs.Simd.Lanes.{chunk}
use Rattle.tinyjson_bytes.proofs.Comparisons.{judged}
use Rattle.tinyjson_bytes.proofs.compare.equal_at.Goals as goal

pub returns : goal.returns
returns g c =
    let n = g.row.N in
    let i = c.args.at in
    let h = c.requires.within in
    let p = length-chunk i n c.args.a.now h.0 in
    let q = length-chunk i n c.args.b.now h.1 in
    judged (chunk i n c.args.a.now) (chunk i n c.args.b.now) (omega (arith, p, q)) (omega (arith, p, h.2))
