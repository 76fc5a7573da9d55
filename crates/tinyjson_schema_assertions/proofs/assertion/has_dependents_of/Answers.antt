use Rattle.std.proofs.Common.{◌≡◌, ◌∙◌, ◌||◌, not, true, false, is_some, sym, ap}
use Rattle.tinyjson.specs.Tree.{find}
use Rattle.tinyjson.specs.View.{view}
use Rattle.tinyjson_document.specs.Parts.{members_in}
use Rattle.tinyjson_view.specs.Views.{tree_of}
use Rattle.tinyjson_schema_assertions.specs.Assertions.{has_keys}
use Rattle.tinyjson_schema_assertions.proofs.assertion.has_dependents_of.Goals as goal

pub returns-then-not-has_key : goal.returns-then-not-has_key
returns-then-not-has_key c =
    let ms = members_in (tree_of c.args.value.now) in
    sym (ap (λ b. not b || has_keys (view c.args.keys.now) ms) (sym c.has_key.ensures ∙ c.if-not-has_key.true))

pub returns : goal.returns
returns c =
    let ms = members_in (tree_of c.args.value.now) in
    c.has_keys.ensures ∙ sym (ap (λ b. not b || has_keys (view c.args.keys.now) ms) (sym c.has_key.ensures ∙ c.if-not-has_key.false))
