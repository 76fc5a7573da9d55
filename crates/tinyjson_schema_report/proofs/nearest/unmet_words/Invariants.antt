use Rattle.std.proofs.Common.{◌≡◌, drop}
use Rattle.tinyjson.specs.View.{view}
use Rattle.tinyjson_view.specs.Views.{tree_of}
use Rattle.tinyjson_schema_report.specs.Nearest.{unmet_words}
use Rattle.tinyjson_schema_report.proofs.nearest.unmet_words.Given as goal

abbrev pub invariant-loop-keyword : goal.invariant-loop-keyword
invariant-loop-keyword l = unmet_words (drop l.keyword-index l.keywords) (view l.schema) (tree_of l.value)
    ≡ unmet_words l.keywords (view l.schema) (tree_of l.value)
