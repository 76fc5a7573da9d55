use Rattle.std.proofs.Common.{◌<◌, length, subst, sym, rules}
use Rattle.std.proofs.lemmas.List.{length-map}
use Rattle.tinyjson_schema_bundle.specs.Bundles.{all_marked}
use Rattle.tinyjson_schema_bundle.specs.Scopes.{IsScope, Reached, reached_of, states_in}
use Rattle.tinyjson_schema_bundle.proofs.Copying.{appended, in_reached}
use Rattle.tinyjson_schema_bundle.proofs.copies.gather_target.Goals as goal

pub returns : goal.returns
returns c =
    let g = c.args.guide.now in
    let all = all_marked g.marks.now in
    let old = c.args.gathered.now in
    let few : length old.states.items < 1000 = search rules in
    appended all g.root.now (reached_of c.in_ok-state.state) (states_in old) (states_in c.push.new.self) c.push.ensures
    (subst (λ n. n < 1000) (sym (length-map old.states.items reached_of)) few) c.requires.states.1
    (subst (λ (s : Reached). IsScope all g.root.now s.0) (sym c.in_ok-state.ensures)
    (in_reached all g.root.now (reached_of g.from.now) c.place_of_base.result.now c.as_str.result.now c.requires.from))
