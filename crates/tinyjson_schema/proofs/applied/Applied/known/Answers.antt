use Rattle.tinyjson_schema_table.proofs.Callers.{self_known}
use Rattle.tinyjson_schema.proofs.applied.Applied.known.Goals as goal

pub invariant_of-result : goal.invariant_of-result
invariant_of-result c = record {
  marked = c.args.known.shape.now.marked;
  same = self_known c.args.known;
}
