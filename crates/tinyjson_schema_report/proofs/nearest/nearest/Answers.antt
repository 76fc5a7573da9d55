use Rattle.std.proofs.Common.{sym, ap, ◌∙◌, option_map}
use Rattle.tinyjson.specs.View.{view}
use Rattle.tinyjson_view.specs.Views.{tree_of}
use Rattle.tinyjson_schema_report.specs.Nearest.{gap, gap_of}
use Rattle.tinyjson_schema_report.proofs.Nearing.{near_begins, near_next, near_nowhere, near_end}
use Rattle.tinyjson_schema_report.proofs.nearest.nearest.Goals as goal

pub loop-schema-init : goal.loop-schema-init
loop-schema-init c =
    near_begins (λ r. gap (view c.args.walk.whole.now.root.now) c.args.walk.steps r (tree_of c.args.value.now)) _ _ c.in-Some.first.now
    (gap_of c.in-Some-2.best) c.in-Some.ensures.cases.0 (ap (option_map gap_of) (sym c.in-Some-2.is) ∙ c.in_ok-best.ensures)

pub returns-in_default-3 : goal.returns-in_default-3
returns-in_default-3 c =
    near_nowhere (λ r. gap (view c.args.walk.whole.now.root.now) c.args.walk.steps r
    (tree_of c.args.value.now)) _ c.loop-schema.schema-index
    (gap_of c.loop-schema.best) _ c.schema-item.result c.loop-schema-test.true c.schema-item.is
    (ap (option_map gap_of) (sym c.in_default-3.is) ∙ c.in_ok-next.ensures) c.loop-schema.invariant

pub loop-schema-preserved : goal.loop-schema-preserved
loop-schema-preserved c =
    near_next (λ r. gap (view c.args.walk.whole.now.root.now) c.args.walk.steps r (tree_of c.args.value.now)) _ c.loop-schema.schema-index
    (gap_of c.loop-schema.best) _ c.schema-item.result (gap_of c.in-Some-3.next) (gap_of c.further-best.result) c.loop-schema-test.true
    c.schema-item.is (ap (option_map gap_of) (sym c.in-Some-3.is) ∙ c.in_ok-next.ensures) c.further-best.ensures c.loop-schema.invariant

pub returns : goal.returns
returns c =
    near_end (λ r. gap (view c.args.walk.whole.now.root.now) c.args.walk.steps r (tree_of c.args.value.now)) _ c.loop-schema.schema-index
    (gap_of c.loop-schema.best) _ c.loop-schema-test.false c.loop-schema.invariant
