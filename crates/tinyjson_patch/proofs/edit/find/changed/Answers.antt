use Rattle.std.proofs.Common.{◌≤◌, ◌<◌, ◌^◌, Some, length, option_map, arith, refl, sym, ap, ◌∙◌}
use Rattle.std.specs.Str.{chars}
use Rattle.tinyjson_patch.specs.private.Edited.{part_tree, tree}
use Rattle.tinyjson_patch.proofs.Editing.Steps.{item_found, item_gone, item_past, member_step}
use Rattle.tinyjson_patch.proofs.edit.find.changed.Goals as goal

pub returns-in_err-index-in-Array : goal.returns-in_err-index-in-Array
returns-in_err-index-in-Array c =
    let k = chars c.args.token.now in
    let l = c.in-Array.items in
    ap (option_map part_tree) c.from_residual-in_err-index-in-Array.ensures
    ∙ sym (item_past c.args.value.now l k c.in-Array.is
    (λ i e. let h : 2 ^ 64 ≤ i = c.in_err-index-in-Array.ensures i e in omega (arith, l.small, l.ok)))

pub returns-in_err-get-in-Array : goal.returns-in_err-get-in-Array
returns-in_err-get-in-Array c =
    let k = chars c.args.token.now in
    let l = c.in-Array.items in
    let i = c.in_ok-index-in-Array.field-0 in
    let past : length l.items ≤ i = grind (arith, c.in_err-get-in-Array.ensures.variant.1, l.small, l.ok) in
    ap (option_map part_tree) c.from_residual-in_err-get-in-Array.ensures
    ∙ sym (item_gone c.args.value.now l k c.in-Array.is i c.in_ok-index-in-Array.ensures past)

pub returns-in_err-get-in-Object : goal.returns-in_err-get-in-Object
returns-in_err-get-in-Object c =
    let m = c.in-Object.members in
    ap (option_map part_tree) c.from_residual-in_err-get-in-Object.ensures
    ∙ sym ((member_step c.args.value.now m c.in-Object.is c.args.token.now c.utf8.token
    ∙ ap (option_map tree) (sym c.in_err-get-in-Object.ensures.value)))

pub returns-in_ok-get-in-Array : goal.returns-in_ok-get-in-Array
returns-in_ok-get-in-Array c =
    let k = chars c.args.token.now in
    let l = c.in-Array.items in
    let i = c.in_ok-index-in-Array.field-0 in
    let below : i < l.len = c.in_ok-get-in-Array.ensures.variant.0 refl in
    ap Some (c.part_of.ensures ∙ ap tree c.as_ref.ensures)
    ∙ sym (item_found c.args.value.now l k c.in-Array.is i c.in_ok-index-in-Array.ensures c.in_ok-get-in-Array.field-0.now
    (omega (arith, below, l.small, l.ok)) c.in_ok-get-in-Array.ensures.lookup)

pub returns-in_ok-get-in-Object : goal.returns-in_ok-get-in-Object
returns-in_ok-get-in-Object c =
    let m = c.in-Object.members in
    ap Some c.part_of-in-Object.ensures
    ∙ sym ((member_step c.args.value.now m c.in-Object.is c.args.token.now c.utf8.token
    ∙ ap (option_map tree) (sym c.in_ok-get-in-Object.ensures.value)))
