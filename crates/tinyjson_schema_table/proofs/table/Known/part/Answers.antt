use Rattle.std.proofs.Common.{◌≡◌, ◌∙◌, Some, slice_get, sym, ap, arith, subst}
use Rattle.std.proofs.lemmas.Grind.{common_steps}
use Rattle.std.proofs.lemmas.Option.{slice_get_cases}
use Rattle.tinyjson.specs.View.{view}
use Rattle.tinyjson_schema_table.specs.Places.{LeadsTo, IsIn}
use Rattle.tinyjson_schema_table.proofs.Links.{linked_to}
use Rattle.tinyjson_schema_table.proofs.table.Known.part.Goals as goal

pub returns : goal.returns
returns c =
    let n = c.args.self in
    let t = n.table.now in
    let s = view n.shape.now.schema.now in
    let ls = c.in-Some.links.now in
    let p = c.in-Some-found.ensures in
    let there : slice_get c.deref.result.now n.at ≡ Some ls
    = grind (arith, common_steps, slice_get_cases c.deref.result.now n.at) in
    subst (λ o. LeadsTo o c.over.result) (p.leads s) (linked_to t.shapes.items t.links.items n.at s ls p.index p.link c.over.result
    t.linked n.placed (ap (λ ys. slice_get ys n.at) (sym c.deref.ensures.value) ∙ there)
    (ap (λ ys. slice_get ys p.index) (sym c.as_slice.ensures.value) ∙ p.there)
    (subst (λ i. IsIn t.shapes.items i c.over.result) p.place c.over.ensures))
