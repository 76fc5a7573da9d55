use Rattle.std.proofs.Common.{◌≡◌, ◌∷◌, List}
use Rattle.std.specs.Str.{chars}
use Rattle.tinyjson.specs.Events.{Open, at_key}
use Rattle.tinyjson.specs.Tree.{Members}
use Rattle.tinyjson_document.specs.Comparing.{members_weight}
use Rattle.tinyjson_document.specs.Document.{members_left}
use Rattle.tinyjson_patch.specs.Merging.{had}
use Rattle.tinyjson_patch.proofs.MergingDocuments.{Same}
use Rattle.tinyjson_patch.proofs.merge_document.pass_below.Given as goal

abbrev pub invariant-loop-other : goal.invariant-loop-other
invariant-loop-other g l =
    (members_left l.above ≡ members_left l.members)
    × ((start : _) (ns : Members) (fs : List Open) → g.E.Events.holds start l.fn.events (at_key ns ∷ fs)
    → (os : Members) × g.E.Events.holds start l.events (at_key os ∷ fs)
    × Same (chars l.fn.key) ns (had l.fn.target) os (members_left l.members))

abbrev pub decreases-loop-other : goal.decreases-loop-other
decreases-loop-other g l = members_weight (members_left l.above)
