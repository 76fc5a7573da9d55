use Rattle.std.proofs.Common.{◌≡◌, ◌≤◌}
use Rattle.tinyjson.specs.private.Comparison.{has_entries}
use Rattle.tinyjson.specs.private.Copy.{entries_weight}
use Rattle.tinyjson.specs.View.{members_view}
use Rattle.tinyjson.proofs.value.equality.next_members.Given as goal

abbrev pub invariant-loop-key : goal.invariant-loop-key
invariant-loop-key l = (has_entries (members_view l.b.entries) l.a ≡ has_entries (members_view l.b.entries) l.initial.a)
    × (entries_weight l.a ≤ entries_weight l.initial.a)
