use Rattle.std.proofs.Common.{◌≡◌, ◌+◌, ◌≤◌, take, drop, length, reverse}
use Rattle.tinyjson.specs.View.{members_view}
use Rattle.tinyjson.specs.private.Stack.{gather}
use Rattle.tinyjson.proofs.parser.stack.Stack.fill_after.Given as goal

abbrev pub invariant-loop-self : goal.invariant-loop-self
invariant-loop-self l =
    let old = l.initial.self in
    record {
      members : gather (members_view l.members.entries) (reverse (drop l.keys l.self.keys.items))
          (reverse (drop l.values l.self.values.items))
          ≡ gather (members_view l.initial.members.entries) (reverse (drop l.keys old.keys.items))
          (reverse (drop l.values old.values.items));
      keys : take l.keys l.self.keys.items ≡ take l.keys old.keys.items;
      values : take l.values l.self.values.items ≡ take l.values old.values.items;
      keys_least : l.keys ≤ length l.self.keys.items;
      values_least : l.values ≤ length l.self.values.items;
      count : length l.self.keys.items + l.values ≡ length l.self.values.items + l.keys;
      places : l.self.places ≡ old.places;
      maps : l.self.maps ≡ old.maps;
    }

abbrev pub decreases-loop-self : goal.decreases-loop-self
decreases-loop-self l = length l.self.values.items
