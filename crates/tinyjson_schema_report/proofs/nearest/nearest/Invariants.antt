use Rattle.std.proofs.Common.{◌≡◌, drop}
use Rattle.tinyjson.specs.View.{view, items_view}
use Rattle.tinyjson_view.specs.Views.{tree_of}
use Rattle.tinyjson_schema_report.specs.Nearest.{gap, gap_of, nearest, nearest_after}
use Rattle.tinyjson_schema_report.proofs.nearest.nearest.Given as goal

abbrev pub invariant-loop-schema : goal.invariant-loop-schema
invariant-loop-schema l =
    nearest_after (λ r. gap (view l.fn.walk.whole.now.root.now) l.fn.walk.steps r (tree_of l.value)) (gap_of l.best)
    (items_view (drop l.schema-index l.more))
    ≡ nearest (λ r. gap (view l.fn.walk.whole.now.root.now) l.fn.walk.steps r (tree_of l.value)) (items_view l.fn.schemas)
