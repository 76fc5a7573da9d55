use Rattle.tinyjson.proofs.Values.Comparison.{apart_items}
use Rattle.std.proofs.Common.{rules}
use Rattle.tinyjson.proofs.value.equality.compare_arrays.Goals as goal

pub returns-then-a-b-clause-same : goal.returns-then-a-b-clause-same
returns-then-a-b-clause-same c = apart_items c.args.a.now c.args.b.now (search rules)
