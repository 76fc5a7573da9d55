use Rattle.tinyjson_schema_table.proofs.Held.{values_same}
use Rattle.tinyjson_schema_table.proofs.shape.shape_of.Goals as goal

pub invariant_of-result : goal.invariant_of-result
invariant_of-result c = record {
  marked = c.marks_of.ensures;
  had = c.in_ok-given.ensures.had;
  all = c.in_ok-given.ensures.all;
  held = values_same _ _ c.in_ok-values.ensures;
}
