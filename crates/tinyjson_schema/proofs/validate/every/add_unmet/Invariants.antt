use Rattle.std.proofs.Common.{◌≡◌, ◌++◌, drop}
use Rattle.tinyjson.specs.View.{view}
use Rattle.tinyjson_view.specs.Views.{tree_of}
use Rattle.tinyjson_schema_assertions.specs.Assertions.{meets}
use Rattle.tinyjson_schema.specs.Every.{failing}
use Rattle.tinyjson_schema.proofs.validate.every.add_unmet.Given as goal

abbrev pub invariant-loop-keyword : goal.invariant-loop-keyword
invariant-loop-keyword l =
    l.unmet.items ++ failing (λ k. meets k (view l.here.schema.now) (tree_of l.value)) (drop l.keyword-index l.keywords)
    ≡ l.initial.unmet.items ++ failing (λ k. meets k (view l.here.schema.now) (tree_of l.value)) l.keywords
