use Rattle.std.proofs.Common.{◌≡◌, ◌<◌, ◌+◌, ◌∙◌, ◌&&◌, true, false, Ok, Some, None, drop, refl, rules, sym, ap, subst}
use Rattle.tinyjson.specs.Tree.{tree_depth}
use Rattle.tinyjson.specs.View.{view}
use Rattle.tinyjson_schema_keywords.specs.Subschemas.{all_parts, parts_of}
use Rattle.tinyjson_schema_keywords.proofs.Callers.{part_depth, turn_stop, turn_next, turn_end}
use Rattle.tinyjson_schema.specs.Refused.{Refuses, has_shape, is_applied, whole_for, whole_of}
use Rattle.tinyjson_schema.proofs.Refusals.{in_part, refuses_more, parts_applied, not_shaped, not_in_parts, all_applied}
use Rattle.tinyjson_schema.proofs.refused.+refused_in.Goals as goal

pub refused_in-requires : goal.refused_in-requires
refused_in-requires t c =
    let p = c.part-item.result in
    let all : all_parts c.as_slice-part-items.result.now ≡ parts_of c.args.form (view c.args.value.now)
    = ap all_parts c.as_slice-part-items.ensures.value ∙ c.in_ok-parts.ensures in
    let smaller : tree_depth (view p.value.now) < tree_depth (view c.args.value.now)
    = part_depth c.args.form c.args.value.now _ c.loop-part.part-index p all c.loop-part-test.true c.part-item.is in
    search rules

pub returns-in-Some-clause-place : goal.returns-in-Some-clause-place
returns-in-Some-clause-place t c =
    let root = whole_of c.args.document in
    let w = view c.args.value.now in
    let at = subst (λ o. Refuses (has_shape root c.args.is_whole c.args.form w) root c.args.is_whole c.args.form w (Ok o)) c.in-Some.is
    c.in_ok-place.ensures.place in
    refuses_more root w _ _ c.args.is_whole c.args.form _ _ (not_shaped root c.args.is_whole c.args.form w) at

pub returns-in-Some-2-clause-place : goal.returns-in-Some-2-clause-place
returns-in-Some-2-clause-place t c =
    let root = whole_of c.args.document in
    let whole = c.args.is_whole in
    let f = c.args.form in
    let w = view c.args.value.now in
    let ps = c.as_slice-part-items.result.now in
    let i = c.loop-part.part-index in
    let p = c.part-item.result in
    let v = view p.value.now in
    let all : all_parts ps ≡ parts_of f w = ap all_parts c.as_slice-part-items.ensures.value ∙ c.in_ok-parts.ensures in
    let others = parts_applied root whole (all_parts (drop (i + 1) ps)) in
    let at = subst (λ b. Refuses (is_applied root b p.form v) root b p.form v (Ok (Some c.in-Some-2.place))) c.whole_for-of_whole.ensures
    (subst (λ o. Refuses (is_applied root c.whole_for-of_whole.result p.form v) root c.whole_for-of_whole.result p.form v (Ok o))
    c.in-Some-2.is c.in_ok-place-2.ensures.place) in
    let none : is_applied root (whole_for whole p.form) p.form v ≡ false → is_applied root whole f w ≡ false
    = λ e. not_in_parts root whole f w ps all (sym (turn_stop (λ xs. parts_applied root whole (all_parts xs)) ps i false p
    c.loop-part-test.true c.part-item.is (ap (λ b. b && others) e) c.loop-part.invariant.0)) in
    in_part root _ _ whole f c.args.value.now ps i p _ _ _ all c.loop-part-test.true c.part-item.is c.in_ok-prepend.ensures none at

pub loop-part-preserved : goal.loop-part-preserved
loop-part-preserved t c =
    let root = whole_of c.args.document in
    let whole = c.args.is_whole in
    let ps = c.as_slice-part-items.result.now in
    let i = c.loop-part.part-index in
    let p = c.part-item.result in
    let v = view p.value.now in
    let others = parts_applied root whole (all_parts (drop (i + 1) ps)) in
    let good : is_applied root (whole_for whole p.form) p.form v ≡ true
    = subst (λ b. Refuses (is_applied root b p.form v) root b p.form v (Ok None)) c.whole_for-of_whole.ensures
    (subst (λ o. Refuses (is_applied root c.whole_for-of_whole.result p.form v) root c.whole_for-of_whole.result p.form v (Ok o))
    c.in_default-2.is c.in_ok-place-2.ensures.place) in (
      turn_next (λ xs. parts_applied root whole (all_parts xs)) ps i p c.loop-part-test.true c.part-item.is
          (ap (λ b. b && others) good) c.loop-part.invariant.0,
      c.in_ok-place-2.ensures.right,
    )

pub returns-clause-place : goal.returns-clause-place
returns-clause-place t c =
    let root = whole_of c.args.document in
    let whole = c.args.is_whole in
    let f = c.args.form in
    let w = view c.args.value.now in
    let ps = c.as_slice-part-items.result.now in
    let all : all_parts ps ≡ parts_of f w = ap all_parts c.as_slice-part-items.ensures.value ∙ c.in_ok-parts.ensures in
    let shape : has_shape root whole f w ≡ true
    = subst (λ o. Refuses (has_shape root whole f w) root whole f w (Ok o)) c.in_default.is c.in_ok-place.ensures.place in
    all_applied root whole f w ps all shape
    (turn_end (λ xs. parts_applied root whole (all_parts xs)) ps c.loop-part.part-index true c.loop-part-test.false refl
    c.loop-part.invariant.0)
