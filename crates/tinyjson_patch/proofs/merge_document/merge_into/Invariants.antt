use Rattle.std.proofs.Common.{List, reverse}
use Rattle.tinyjson.specs.Events.{Open}
use Rattle.tinyjson_document.specs.Document.{tree}
use Rattle.tinyjson_patch.specs.Merge.{merge_patch}
use Rattle.tinyjson_patch.specs.Merging.{Waits, left_weight}
use Rattle.tinyjson_patch.proofs.merge_document.merge_into.Given as goal

abbrev pub invariant-loop-left : goal.invariant-loop-left
invariant-loop-left g l = (start : _) (os : List Open) → g.E.Events.holds start l.fn.events os
    → Waits (g.E.Events.holds start) (g.E.Events.is start) os (merge_patch (tree l.fn.target) (tree l.fn.patch))
    (reverse l.stack.items) l.events

abbrev pub decreases-loop-left : goal.decreases-loop-left
decreases-loop-left g l = left_weight l.stack.items
