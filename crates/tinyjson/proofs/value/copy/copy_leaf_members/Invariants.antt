use Rattle.std.proofs.Common.{◌≡◌, ◌≤◌}
use Rattle.tinyjson.proofs.value.copy.copy_leaf_members.Given as goal
use Rattle.tinyjson.specs.private.Copy.{put_all, entries_weight}
use Rattle.tinyjson.specs.View.{members_view}

abbrev pub invariant-loop-key : goal.invariant-loop-key
invariant-loop-key l = (put_all l.rest (members_view l.copies.entries) ≡ put_all l.initial.rest (members_view l.initial.copies.entries))
    × (entries_weight l.rest ≤ entries_weight l.initial.rest)
