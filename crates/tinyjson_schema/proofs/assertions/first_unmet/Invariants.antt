use Rattle.std.proofs.Common.{◌≡◌, drop}
use Rattle.tinyjson.specs.View.{view}
use Rattle.tinyjson_view.specs.Views.{tree_of}
use Rattle.tinyjson_schema_assertions.specs.Assertions.{meets_all}
use Rattle.tinyjson_schema.proofs.assertions.first_unmet.Given as goal

abbrev pub invariant-loop-keyword : goal.invariant-loop-keyword
invariant-loop-keyword l = meets_all (drop l.keyword-index l.keywords) (view l.here.schema.now) (tree_of l.value)
    ≡ meets_all l.keywords (view l.here.schema.now) (tree_of l.value)
