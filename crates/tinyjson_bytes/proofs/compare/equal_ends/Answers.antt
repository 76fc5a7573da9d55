use Rattle.tinyjson_bytes.proofs.Comparisons.{both_equal}
use Rattle.tinyjson_bytes.proofs.compare.equal_ends.Goals as goal

pub returns-then-equal_at : goal.returns-then-equal_at
returns-then-equal_at g c = both_equal g.row.N c.args.a.now c.args.b.now c.requires.len c.requires.count.0 c.requires.count.1
    c.equal_at.result c.equal_at-then-equal_at.result c.equal_at.ensures c.equal_at-then-equal_at.ensures c.if-equal_at.true
