use Rattle.std.proofs.Common.{◌≡◌, ◌∙◌, Some, slice_get, sym, ap, arith}
use Rattle.std.proofs.lemmas.Grind.{common_steps}
use Rattle.std.proofs.lemmas.Option.{slice_get_cases}
use Rattle.tinyjson.specs.View.{view}
use Rattle.tinyjson_schema_table.specs.Links.{tree_in}
use Rattle.tinyjson_schema_table.proofs.Givens.{at_is}
use Rattle.tinyjson_schema_table.proofs.Links.{placed_at, tree_got}
use Rattle.tinyjson_schema_table.proofs.table.Table.first.Goals as goal

pub invariant_of-result : goal.invariant_of-result
invariant_of-result c =
    let xs = c.args.self.now.shapes.items in
    let x = c.in-Some.shape.now in
    let some : slice_get c.deref.result.now 0 ≡ Some x = grind (arith, common_steps, slice_get_cases c.deref.result.now 0) in
    record { placed = placed_at xs 0 x (sym (ap (λ ys. slice_get ys 0) (sym c.deref.ensures.value) ∙ some)) }

pub returns : goal.returns
returns c =
    let t = c.args.self.now in
    let x = c.in-Some.shape.now in
    let some : slice_get c.deref.result.now 0 ≡ Some x = grind (arith, common_steps, slice_get_cases c.deref.result.now 0) in
    sym (at_is (tree_in t.shapes.items 0) (view t.schema.now) t.root)
    ∙ sym (tree_got t.shapes.items 0 x (sym (ap (λ ys. slice_get ys 0) (sym c.deref.ensures.value) ∙ some)))
