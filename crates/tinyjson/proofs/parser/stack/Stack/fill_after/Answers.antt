use Rattle.std.proofs.Common.{rules, arith, ◌≤◌, ◌∙◌, ap₂, refl, sym, drop, reverse, length}
use Rattle.std.proofs.lemmas.List.{take_all}
use Rattle.tinyjson.specs.View.{members_view}
use Rattle.tinyjson.specs.private.Stack.{gather}
use Rattle.tinyjson.proofs.Reading.Stack.{none_left, turned_front, turned_back, turned_length}
use Rattle.tinyjson.proofs.parser.stack.Stack.fill_after.Goals as goal

pub loop-self-init : goal.loop-self-init
loop-self-init c =
    let keys = turned_length c.args.keys _ _ c.requires.keys c.reverse_from.ensures in
    let values = turned_length c.args.values _ _ c.requires.values c.reverse_from-2.ensures in
    record {
      members = refl;
      keys = refl;
      values = refl;
      keys_least = omega (arith, keys, c.requires.keys);
      values_least = omega (arith, values, c.requires.values);
      count = omega (arith, keys, values, c.requires.count);
      places = refl;
      maps = refl;
    }

pub returns-clause-members : goal.returns-clause-members
returns-clause-members c =
    let i = c.loop-self.invariant in
    let done : length c.loop-self.self.values.items ≤ c.args.values = search rules in
    none_left (members_view c.loop-self.members.entries) c.args.values _ (reverse (drop c.args.keys c.loop-self.self.keys.items)) done
    ∙ i.members
    ∙ ap₂ (gather (members_view c.args.members.now.entries)) (turned_back c.args.keys _ _ c.requires.keys c.reverse_from.ensures)
    (turned_back c.args.values _ _ c.requires.values c.reverse_from-2.ensures)

pub returns-clause-values : goal.returns-clause-values
returns-clause-values c =
    let done : length c.loop-self.self.values.items ≤ c.args.values = search rules in
    sym (take_all c.args.values _ done) ∙ c.loop-self.invariant.values
    ∙ turned_front c.args.values _ _ c.requires.values c.reverse_from-2.ensures

pub returns-clause-keys : goal.returns-clause-keys
returns-clause-keys c =
    let i = c.loop-self.invariant in
    let values : length c.loop-self.self.values.items ≤ c.args.values = search rules in
    let done : length c.loop-self.self.keys.items ≤ c.args.keys = omega (arith, values, i.count) in
    sym (take_all c.args.keys _ done) ∙ i.keys ∙ turned_front c.args.keys _ _ c.requires.keys c.reverse_from.ensures
