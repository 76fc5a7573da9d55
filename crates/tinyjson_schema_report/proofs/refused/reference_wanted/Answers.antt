use Rattle.std.proofs.Common.{◌∙◌, ap, cond, codes, sym, subst}
use Rattle.std.specs.Prelude.{is_some}
use Rattle.tinyjson.specs.View.{view}
use Rattle.tinyjson_schema_keywords.proofs.Callers.{anchors_had}
use Rattle.tinyjson_schema_report.proofs.refused.reference_wanted.Goals as goal

pub invariant_of-whole : goal.invariant_of-whole
invariant_of-whole c = record {
  gathered = anchors_had (view c.args.root.now) c.in_ok-anchors.anchors.items c.in_ok-anchors.ensures;
}
