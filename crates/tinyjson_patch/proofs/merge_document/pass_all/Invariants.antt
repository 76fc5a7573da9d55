use Rattle.std.proofs.Common.{◌≡◌, ◌∷◌, List}
use Rattle.tinyjson.specs.Events.{Open, at_key}
use Rattle.tinyjson.specs.Tree.{Members}
use Rattle.tinyjson_document.specs.Comparing.{members_weight}
use Rattle.tinyjson_document.specs.Document.{members_left}
use Rattle.tinyjson_document.specs.Replaying.{put_members}
use Rattle.tinyjson_patch.proofs.merge_document.pass_all.Given as goal

abbrev pub invariant-loop-key : goal.invariant-loop-key
invariant-loop-key g l = (start : _) (ns : Members) (fs : List Open) → g.E.Events.holds start l.fn.events (at_key ns ∷ fs)
    → (os : Members) × g.E.Events.holds start l.events (at_key os ∷ fs)
    × (put_members ns (members_left l.initial.members) ≡ put_members os (members_left l.members))

abbrev pub decreases-loop-key : goal.decreases-loop-key
decreases-loop-key g l = members_weight (members_left l.members)
