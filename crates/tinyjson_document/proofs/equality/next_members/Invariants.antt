use Rattle.std.proofs.Common.{◌≡◌, ◌≤◌}
use Rattle.tinyjson_document.specs.Comparing.{are_among, members_weight}
use Rattle.tinyjson_document.specs.Document.{members_left}
use Rattle.tinyjson_document.specs.Parts.{members_in}
use Rattle.tinyjson_document.proofs.equality.next_members.Given as goal

abbrev pub invariant-loop-key : goal.invariant-loop-key
invariant-loop-key g l =
    (are_among (members_left l.members) (members_in (g.V.Other.tree l.fn.other))
    ≡ are_among (members_left l.initial.members) (members_in (g.V.Other.tree l.fn.other)))
    × (members_weight (members_left l.members) ≤ members_weight (members_left l.initial.members))

abbrev pub decreases-loop-key : goal.decreases-loop-key
decreases-loop-key g l = members_weight (members_left l.members)
