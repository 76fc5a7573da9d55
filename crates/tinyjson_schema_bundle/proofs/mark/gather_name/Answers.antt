use Rattle.std.proofs.Common.{sym, subst}
use Rattle.tinyjson.specs.View.{view}
use Rattle.tinyjson_schema_bundle.specs.Bundles.{Gathers, name_marks}
use Rattle.tinyjson_schema_bundle.proofs.Marking.{name_marked}
use Rattle.tinyjson_schema_bundle.proofs.mark.gather_name.Goals as goal

pub returns : goal.returns
returns c =
    let k = c.args.kind in
    let b = c.args.spot.base.now in
    let p = c.args.spot.place.now in
    subst (λ xs. Gathers (name_marks k b p (view c.args.operand.now)) c.args.marks.now.items xs) (sym c.in_ok-push.ensures.items)
    (name_marked c.args.operand.now c.in-String.name k b p c.as_str.result.now _ c.args.marks.now.items c.in-String.is
    c.as_str.ensures.value (λ i. (k, c.in_ok-with_name.ensures i, c.in_ok-from_str.ensures.ok i)))
