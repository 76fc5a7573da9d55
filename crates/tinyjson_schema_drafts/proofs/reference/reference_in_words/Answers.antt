use Rattle.std.proofs.Common.{◌≡◌, ◌∙◌, true, false, cond, refl, sym, ap, subst}
use Rattle.std.specs.Prelude.{IfOk}
use Rattle.tinyjson.proofs.Callers.{view_Null}
use Rattle.tinyjson.specs.Tree.{null}
use Rattle.tinyjson.specs.View.{view}
use Rattle.tinyjson_schema_drafts.specs.Pointers.{is_lost, reference_by, reference_in_words}
use Rattle.tinyjson_schema_drafts.proofs.Wording.{said_of}
use Rattle.tinyjson_schema_drafts.proofs.reference.reference_in_words.Goals as goal

pub returns-then-branch : goal.returns-then-branch
returns-then-branch c =
    let r = view c.args.resource.now in
    let v = c.args.reference.now in
    let bs = c.as_str.result.now in
    let lost : is_lost r bs ≡ true = sym c.in_ok-is_lost.ensures ∙ c.if-branch.true in
    view_Null ∙ (ap (λ b. cond b null (view v)) (sym lost)
    ∙ said_of v c.in-String.text bs c.in-String.is c.as_str.ensures.value (reference_by r) (reference_in_words r) refl)

pub returns : goal.returns
returns c =
    let r = view c.args.resource.now in
    let v = c.args.reference.now in
    let bs = c.as_str.result.now in
    let kept : is_lost r bs ≡ false = sym c.in_ok-is_lost.ensures ∙ c.if-branch.false in
    subst (λ w. IfOk c.try_clone-2.result (λ x. view x ≡ w))
    (ap (λ b. cond b null (view v)) (sym kept)
    ∙ said_of v c.in-String.text bs c.in-String.is c.as_str.ensures.value (reference_by r) (reference_in_words r) refl)
    c.try_clone-2.ensures
