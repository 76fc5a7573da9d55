use Rattle.std.proofs.Common.{◌≡◌, ◌∙◌, Some, slice_get, length, sym, ap, arith, subst}
use Rattle.std.proofs.lemmas.Grind.{common_steps}
use Rattle.std.proofs.lemmas.Option.{slice_get_cases}
use Rattle.tinyjson.specs.View.{view}
use Rattle.tinyjson_schema_table.specs.Links.{AddsLinks}
use Rattle.tinyjson_schema_table.proofs.Links.{none_added, next_added, tree_got}
use Rattle.tinyjson_schema_table.proofs.table.add_links.Goals as goal

pub returns-in_default : goal.returns-in_default
returns-in_default c = none_added c.args.shapes.now.items c.args.links.now.items

pub returns : goal.returns
returns c =
    let xs = c.args.shapes.now.items in
    let lss = c.args.links.now.items in
    let x = c.in-Some.shape.now in
    let s = view x.schema.now in
    let i = c.len.result in
    let last : i ≡ length lss = omega (arith, c.args.links.now.ok.0, c.len.ensures) in
    let some : slice_get c.deref.result.now i ≡ Some x = grind (arith, common_steps, slice_get_cases c.deref.result.now i) in
    next_added xs c.add_all.new.shapes.items lss _ c.add_all.new.links s
    (tree_got xs (length lss) x (sym (ap (λ ys. slice_get ys (length lss)) (sym c.deref.ensures.value)
    ∙ subst (λ j. slice_get c.deref.result.now j ≡ Some x) last some)))
    (subst (λ ns. AddsLinks s xs c.add_all.new.shapes.items ns c.add_all.new.links.items) c.new-found.ensures.items c.in_ok-add_all.ensures)
    c.in_ok-push.ensures.items
