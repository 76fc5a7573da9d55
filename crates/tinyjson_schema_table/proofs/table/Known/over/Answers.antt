use Rattle.std.proofs.Common.{◌≡◌, ◌∙◌, Some, slice_get, sym, ap, arith}
use Rattle.std.proofs.lemmas.Grind.{common_steps}
use Rattle.std.proofs.lemmas.Option.{slice_get_cases}
use Rattle.tinyjson_schema_table.proofs.Links.{placed_at, tree_got}
use Rattle.tinyjson_schema_table.proofs.table.Known.over.Goals as goal

pub invariant_of-result : goal.invariant_of-result
invariant_of-result c =
    let xs = c.args.self.table.now.shapes.items in
    let i = c.args.at in
    let x = c.in-Some.shape.now in
    let some : slice_get c.deref.result.now i ≡ Some x = grind (arith, common_steps, slice_get_cases c.deref.result.now i) in
    record { placed = placed_at xs i x (sym (ap (λ ys. slice_get ys i) (sym c.deref.ensures.value) ∙ some)) }

pub returns : goal.returns
returns c =
    let xs = c.args.self.table.now.shapes.items in
    let i = c.args.at in
    let x = c.in-Some.shape.now in
    let some : slice_get c.deref.result.now i ≡ Some x = grind (arith, common_steps, slice_get_cases c.deref.result.now i) in
    sym (tree_got xs i x (sym (ap (λ ys. slice_get ys i) (sym c.deref.ensures.value) ∙ some)))
