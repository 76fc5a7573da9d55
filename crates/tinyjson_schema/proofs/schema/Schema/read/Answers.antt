use Rattle.std.proofs.Common.{ap, ◌∙◌}
use Rattle.tinyjson.specs.Equality.{tree_eq_Decides}
use Rattle.tinyjson.specs.View.{view}
use Rattle.tinyjson_schema_keywords.specs.Anchors.{all_named, repeated}
use Rattle.tinyjson_schema_keywords.proofs.Callers.{anchors_had}
use Rattle.tinyjson_schema.proofs.schema.Schema.read.Goals as goal

pub invariant_of-whole : goal.invariant_of-whole
invariant_of-whole c = record {
  gathered = anchors_had (view c.args.tree.now) c.in_ok-anchors.anchors.items c.in_ok-anchors.ensures;
}

pub invariant_of-document : goal.invariant_of-document
invariant_of-document c = record {
  twice = c.in_ok-again.ensures ∙ ap repeated (ap all_named c.as_slice.ensures.value ∙ c.in_ok-anchors.ensures);
}

pub invariant_of-result-clause-same : goal.invariant_of-result-clause-same
invariant_of-result-clause-same c = (tree_eq_Decides _ _).1 (ap (λ x. view x.now) c.in_ok-table-in-None.ensures)
