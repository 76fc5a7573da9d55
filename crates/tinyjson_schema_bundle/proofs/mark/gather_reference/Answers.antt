use Rattle.std.proofs.Common.{◌∙◌, sym, subst}
use Rattle.tinyjson.specs.View.{view}
use Rattle.tinyjson_schema_bundle.specs.Bundles.{Gathers, reference_marks}
use Rattle.tinyjson_schema_bundle.proofs.Marking.{reference_marked}
use Rattle.tinyjson_schema_bundle.proofs.mark.gather_reference.Goals as goal

pub returns : goal.returns
returns c =
    let p = c.args.place.now in
    let same = c.in_ok-from_str.ensures.ok ∙ (c.as_str-2.ensures.value ∙ sym c.as_str.ensures.value) in
    subst (λ xs. Gathers (reference_marks p (view c.args.operand.now)) c.args.marks.now.items xs) (sym c.in_ok-push.ensures.items)
    (reference_marked c.args.operand.now c.in-String.reference p c.as_str.result.now c.args.marks.now.items c.in-String.is
    c.as_str.ensures.value _ (λ i. (c.reference_kind.ensures i, same i, c.in_ok-from_str-2.ensures.ok i)))
