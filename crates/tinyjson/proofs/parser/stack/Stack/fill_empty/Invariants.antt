use Rattle.std.proofs.Common.{◌≡◌, ◌+◌, ◌≤◌, take, drop, length}
use Rattle.tinyjson_grammar.specs.Tree.{no_members}
use Rattle.tinyjson.specs.View.{members_view}
use Rattle.tinyjson.specs.private.Stack.{gather}
use Rattle.tinyjson.proofs.parser.stack.Stack.fill_empty.Given as goal

abbrev pub invariant-loop-self : goal.invariant-loop-self
invariant-loop-self l =
    let old = l.initial.self in
    let m = length l.self.keys.items in
    let n = length l.self.values.items in
    record {
      members : members_view l.members.entries ≡ gather no_members (drop m old.keys.items) (drop n old.values.items);
      keys : l.self.keys.items ≡ take m old.keys.items;
      values : l.self.values.items ≡ take n old.values.items;
      keys_least : l.keys ≤ m;
      values_least : l.values ≤ n;
      count : m + l.values ≡ n + l.keys;
      places : l.self.places ≡ old.places;
      maps : l.self.maps ≡ old.maps;
    }

abbrev pub decreases-loop-self : goal.decreases-loop-self
decreases-loop-self l = length l.self.values.items
