use Rattle.std.proofs.Common.{◌≡◌, ◌∙◌, true, sym, ap, subst}
use Rattle.std.specs.Prelude.{IfOk}
use Rattle.tinyjson.specs.View.{view}
use Rattle.tinyjson_view.specs.Views.{tree_of}
use Rattle.tinyjson_schema_assertions.specs.Assertions.{IsUnmetAmong, assertions}
use Rattle.tinyjson_schema_table.specs.Givens.{are_had, AreAll}
use Rattle.tinyjson_schema_table.specs.Places.{is_of}
use Rattle.tinyjson_schema_table.proofs.Callers.{known_same}
use Rattle.tinyjson_schema.proofs.assertions.unmet_of.Goals as goal

pub returns-then-walk : goal.returns-then-walk
returns-then-walk c =
    let s = view c.args.here.now.schema.now in
    let t = tree_of c.args.value.now in
    subst (λ f. IfOk c.first_unmet.result (IsUnmetAmong (assertions f) s t)) (sym c.if-walk.true)
    (subst (λ ks. IfOk c.first_unmet.result (IsUnmetAmong ks s t)) c.assertions.ensures c.first_unmet.ensures)

pub returns-in-None : goal.returns-in-None
returns-in-None c =
    let s = view c.args.here.now.schema.now in
    let t = tree_of c.args.value.now in
    subst (λ f. IfOk c.first_unmet-in-None.result (IsUnmetAmong (assertions f) s t)) (sym c.if-walk.false)
    (subst (λ ks. IfOk c.first_unmet-in-None.result (IsUnmetAmong ks s t)) c.assertions-in-None.ensures c.first_unmet-in-None.ensures)

pub returns-in_ok-found-in-Some : goal.returns-in_ok-found-in-Some
returns-in_ok-found-in-Some c =
    let here = c.args.here.now in
    let s = view here.schema.now in
    let n = c.in-Some.known in
    let gs = n.shape.now.given.items in
    let same = known_same n s (subst (λ o. is_of o s ≡ true) c.in-Some.is here.same) in
    let list = c.as_slice.ensures.value in
    subst (λ f. IsUnmetAmong (assertions f) s (tree_of c.args.value.now) c.in_ok-found-in-Some.found) (sym c.if-walk.false)
    (c.in_ok-found-in-Some.ensures s (ap (are_had s) list ∙ subst (λ x. are_had x gs ≡ true) same n.shape.now.had)
    (subst (AreAll s) (sym list) (subst (λ x. AreAll x gs) same n.shape.now.all)))
