use Rattle.std.proofs.Common.{◌≡◌, ◌∙◌, true, false, cond, refl, sym, ap, subst, chars}
use Rattle.std.specs.Prelude.{IfOk}
use Rattle.tinyjson.proofs.Callers.{view_String}
use Rattle.tinyjson.specs.Tree.{string}
use Rattle.tinyjson.specs.View.{view}
use Rattle.text_uri.specs.Resolving.{without_fragment}
use Rattle.tinyjson_schema_drafts.specs.Translated.{has_empty_fragment, id_by, id_in_words}
use Rattle.tinyjson_schema_drafts.proofs.Wording.{said_of}
use Rattle.tinyjson_schema_drafts.proofs.translate.id_in_words.Goals as goal

pub returns-then-not-has_empty_fragment : goal.returns-then-not-has_empty_fragment
returns-then-not-has_empty_fragment c =
    let v = c.args.id.now in
    let bs = c.as_str-text.result.now in
    let other : has_empty_fragment bs ≡ false = sym c.has_empty_fragment.ensures ∙ c.if-not-has_empty_fragment.true in
    subst (λ w. IfOk c.try_clone-then-not-has_empty_fragment.result (λ x. view x ≡ w))
    (ap (λ b. cond b (string (chars (without_fragment bs))) (view v)) (sym other)
    ∙ said_of v c.in-String.text bs c.in-String.is c.as_str-text.ensures.value id_by id_in_words refl)
    c.try_clone-then-not-has_empty_fragment.ensures

pub returns : goal.returns
returns c =
    let v = c.args.id.now in
    let bs = c.as_str-text.result.now in
    let empty : has_empty_fragment bs ≡ true = sym c.has_empty_fragment.ensures ∙ c.if-not-has_empty_fragment.false in
    view_String c.in_ok-uri.uri
    ∙ (ap (λ xs. string (chars xs)) (c.in_ok-uri.ensures.ok ∙ c.without_fragment.ensures)
    ∙ (ap (λ b. cond b (string (chars (without_fragment bs))) (view v)) (sym empty)
    ∙ said_of v c.in-String.text bs c.in-String.is c.as_str-text.ensures.value id_by id_in_words refl))
