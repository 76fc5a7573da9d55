use Rattle.std.proofs.Common.{◌≡◌, ◌<◌, get_or, length, subst, sym, rules}
use Rattle.tinyjson_schema_bundle.specs.Bundles.{all_marked}
use Rattle.tinyjson_schema_bundle.specs.Scopes.{IsScope, Reached}
use Rattle.tinyjson_schema_bundle.proofs.Copying.{scope_of}
use Rattle.tinyjson_schema_bundle.proofs.copies.copies_of.Goals as goal

pub gather_reached-requires-in-loop-next-clause-from : goal.gather_reached-requires-in-loop-next-clause-from
gather_reached-requires-in-loop-next-clause-from c =
    let g = c.args.guide.now in
    let all = all_marked g.marks.now in
    let ss = c.loop-next.gathered.states.items in
    let i = c.loop-next.next in
    let x = c.index.result.now in
    let few : i < length ss = search rules in
    let at : x ≡ get_or ss i x = search rules in
    subst (λ (s : Reached). IsScope all g.root.now s.0) (sym c.in_ok-from.ensures)
    (scope_of all g.root.now ss i x few at c.loop-next.invariant.1)
