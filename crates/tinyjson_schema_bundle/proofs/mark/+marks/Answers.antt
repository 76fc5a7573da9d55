use Rattle.std.proofs.Common.{◌≡◌, ◌++◌, ◌<◌, ◌+◌, ◌*◌, ◌∙◌, arith, rules, ap, subst}
use Rattle.std.specs.Prelude.{OnOk}
use Rattle.tinyjson.specs.Tree.{tree_depth}
use Rattle.tinyjson.specs.View.{view}
use Rattle.tinyjson_schema_keywords.specs.Subschemas.{all_parts, parts_of}
use Rattle.tinyjson_schema_keywords.specs.declared.keyword.Form.TheVariants as form
use Rattle.tinyjson_schema_keywords.proofs.Callers.{part_depth}
use Rattle.tinyjson_schema_bundle.specs.Bundles.{Gathers, base_in, marks_of_parts, marks_within, resource_marks}
use Rattle.tinyjson_schema_bundle.proofs.Marking.{part_marked, parts_marked, within_parts, schema_marked, both_when}
use Rattle.tinyjson_schema_bundle.proofs.mark.+marks.Goals as goal

pub gather_parts-gather-requires : goal.gather_parts-gather-requires
gather_parts-gather-requires t c =
    let p = c.part-item.result in
    let all : all_parts c.as_slice-part-items.result.now ≡ parts_of c.args.form (view c.args.value.now)
    = ap all_parts c.as_slice-part-items.ensures.value ∙ c.in_ok-parts.ensures in
    let below : tree_depth (view p.value.now) < tree_depth (view c.args.value.now)
    = part_depth c.args.form c.args.value.now _ c.loop-part.part-index p all c.loop-part-test.true c.part-item.is in
    let smaller : 3 * tree_depth (view p.value.now) + 2 < 3 * tree_depth (view c.args.value.now) = omega (arith, below) in
    search rules

pub gather_parts-loop-part-preserved : goal.gather_parts-loop-part-preserved
gather_parts-loop-part-preserved t c =
    let b = c.args.spot.base.now in
    let p = c.args.spot.place.now in
    let x = c.part-item.result in
    part_marked b p c.as_slice-part-items.result.now c.loop-part.part-index c.args.marks.now.items c.loop-part.marks.items
    c.loop-part.invariant x c.gather_own.new.marks.items c.gather.new.marks.items c.loop-part-test.true c.part-item.is
    c.in_ok-gather_own.ensures
    (subst (λ q. Gathers (marks_within x.form b q (view x.value.now)) c.gather_own.new.marks.items c.gather.new.marks.items)
    (c.as_str.ensures.value ∙ c.in_ok-place.ensures) c.in_ok-gather.ensures)

pub gather_parts-returns : goal.gather_parts-returns
gather_parts-returns t c =
    parts_marked c.args.spot.base.now c.args.spot.place.now c.as_slice-part-items.result.now c.loop-part.part-index
    c.args.marks.now.items c.loop-part.marks.items c.loop-part.invariant c.args.form (view c.args.value.now) _ c.loop-part-test.false
    c.as_slice-part-items.ensures.value c.in_ok-parts.ensures

pub gather-returns-in_default : goal.gather-returns-in_default
gather-returns-in_default t c =
    subst (λ ms. OnOk c.gather_parts.result (Gathers ms c.args.marks.now.items c.gather_parts.new.marks.items))
    (within_parts c.args.spot.base.now c.args.spot.place.now c.args.form (view c.args.value.now) c.in_default.not-Schema)
    c.gather_parts.ensures

pub gather_schema-returns-in_ok-gather_resource-in-Object : goal.gather_schema-returns-in_ok-gather_resource-in-Object
gather_schema-returns-in_ok-gather_resource-in-Object t c =
    let b = c.args.spot.base.now in
    let p = c.args.spot.place.now in
    let w = view c.args.schema.now in
    let base : c.as_str.result.now ≡ base_in b w = c.as_str.ensures.value ∙ c.in_ok-base-in-Object.ensures in
    subst (λ ms. OnOk c.gather_parts.result (Gathers ms c.args.marks.now.items c.gather_parts.new.marks.items))
    (ap (λ x. resource_marks x p w ++ marks_of_parts x p (parts_of form.Schema w)) base
    ∙ schema_marked b p c.args.schema.now c.in-Object.field-0 c.in-Object.is)
    (both_when c.gather_parts.result _ _ _ _ _ c.in_ok-gather_resource-in-Object.ensures c.gather_parts.ensures)
