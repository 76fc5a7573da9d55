use Rattle.std.proofs.Common.{◌≡◌, ◌∙◌, refl, ap, subst, chars}
use Rattle.std.specs.Option.{option_map_or}
use Rattle.std.specs.Prelude.{IfOk}
use Rattle.tinyjson.proofs.Callers.{view_String}
use Rattle.tinyjson.specs.Tree.{string}
use Rattle.tinyjson.specs.View.{view}
use Rattle.tinyjson_schema_drafts.specs.Translated.{name_by, name_in_words}
use Rattle.tinyjson_schema_drafts.proofs.Wording.{said_of}
use Rattle.tinyjson_schema_drafts.proofs.translate.name_in_words.Goals as goal

pub returns-in_ok-from_str-in-Some : goal.returns-in_ok-from_str-in-Some
returns-in_ok-from_str-in-Some c =
    let v = c.args.id.now in
    view_String c.in_ok-from_str-in-Some.field-0
    ∙ (ap (λ bs. string (chars bs)) c.in_ok-from_str-in-Some.ensures.ok
    ∙ (ap (λ o. option_map_or (λ f. string (chars f)) o (view v)) c.in-Some.ensures
    ∙ said_of v c.in-String.text c.as_str.result.now c.in-String.is c.as_str.ensures.value name_by name_in_words refl))

pub returns-in-None : goal.returns-in-None
returns-in-None c =
    let v = c.args.id.now in
    subst (λ w. IfOk c.try_clone-in-None.result (λ x. view x ≡ w))
    (ap (λ o. option_map_or (λ f. string (chars f)) o (view v)) c.in-None.ensures
    ∙ said_of v c.in-String.text c.as_str.result.now c.in-String.is c.as_str.ensures.value name_by name_in_words refl)
    c.try_clone-in-None.ensures
