use Rattle.std.proofs.Common.{◌≡◌, ◌∙◌, ap, subst}
use Rattle.std.specs.Prelude.{IfOk}
use Rattle.tinyjson_schema_assertions.specs.Distinct.{are_distinct}
use Rattle.tinyjson_view.specs.Views.{tree_of, trees_of}
use Rattle.tinyjson_schema_assertions.proofs.Counted.{unique_items}
use Rattle.tinyjson_schema_assertions.proofs.unique.are_all_different.Goals as goal

pub returns : goal.returns
returns c = subst (λ b. IfOk c.are_distinct.result (λ are. are ≡ b))
    (ap are_distinct (ap trees_of c.as_slice.ensures.value ∙ c.in_ok-items.ensures) ∙ unique_items (tree_of c.args.value.now))
    c.are_distinct.ensures
