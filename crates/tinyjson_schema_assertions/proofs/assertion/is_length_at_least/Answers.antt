use Rattle.std.proofs.Common.{◌≡◌, ◌∙◌, Some, refl, ap, subst}
use Rattle.std.specs.Prelude.{IfOk}
use Rattle.std.specs.Str.{chars}
use Rattle.tinyjson.specs.View.{view}
use Rattle.tinyjson_view.proofs.Callers.{string_is}
use Rattle.tinyjson_view.specs.Views.{tree_of}
use Rattle.tinyjson_schema_assertions.specs.Assertions.{is_count_at_least, length_of}
use Rattle.tinyjson_schema_assertions.proofs.Counted.{no_length}
use Rattle.tinyjson_schema_assertions.proofs.assertion.is_length_at_least.Goals as goal

pub returns-in_default : goal.returns-in_default
returns-in_default c = ap (λ o. is_count_at_least o (view c.args.limit.now)) (no_length (tree_of c.args.value.now) c.in_default.ensures)

pub returns-then-is_surely_at_least : goal.returns-then-is_surely_at_least
returns-then-is_surely_at_least c =
    c.if-is_surely_at_least.ensures refl ∙ ap (λ o. is_count_at_least o (view c.args.limit.now))
    (ap length_of (string_is (tree_of c.args.value.now) (chars c.in-Some.text.now) c.in-Some.ensures))

pub returns : goal.returns
returns c =
    subst (λ o. IfOk c.is_count_at_least.result (λ is. is ≡ is_count_at_least o (view c.args.limit.now)))
    (ap Some c.character_count.ensures ∙ ap length_of (string_is (tree_of c.args.value.now) (chars c.in-Some.text.now) c.in-Some.ensures))
    c.is_count_at_least.ensures
