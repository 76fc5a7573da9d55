use Rattle.std.proofs.Common.{◌≡◌, ◌≤◌, ◌∷◌, List, reverse}
use Rattle.tinyjson.specs.Events.{Open}
use Rattle.tinyjson.specs.Tree.{Tree}
use Rattle.tinyjson_document.specs.Comparing.{members_weight}
use Rattle.tinyjson_document.specs.Document.{members_left}
use Rattle.tinyjson_patch.specs.Merging.{Waits}
use Rattle.tinyjson_patch.proofs.merge_document.resume.Given as goal

abbrev pub invariant-loop-key : goal.invariant-loop-key
invariant-loop-key g l =
    ((start : _) (os : List Open) (t : Tree)
    → Waits (g.E.Events.holds start) (g.E.Events.is start) os t (l.initial.left ∷ reverse l.fn.stack.items) l.fn.events
    → Waits (g.E.Events.holds start) (g.E.Events.is start) os t (l.left ∷ reverse l.fn.stack.items) l.events)
    × (l.stack.items ≡ l.fn.stack.items)
    × (members_weight (members_left l.left.patch) ≤ members_weight (members_left l.initial.left.patch))

abbrev pub decreases-loop-key : goal.decreases-loop-key
decreases-loop-key g l = members_weight (members_left l.left.patch)
