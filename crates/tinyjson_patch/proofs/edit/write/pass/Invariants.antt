use Rattle.std.proofs.Common.{List, reverse}
use Rattle.tinyjson.specs.Events.{Open}
use Rattle.tinyjson_patch.specs.private.Edited.{tree}
use Rattle.tinyjson_patch.specs.private.Writing.{Waits, left_weight}
use Rattle.tinyjson_patch.proofs.edit.write.pass.Given as goal

abbrev pub invariant-loop-rest : goal.invariant-loop-rest
invariant-loop-rest g l = (start : _) (os : List Open) → g.E.Events.holds start l.fn.events os
    → Waits (g.E.Events.holds start) (g.E.Events.is start) os (tree l.value) (reverse l.stack.items) l.events

abbrev pub decreases-loop-rest : goal.decreases-loop-rest
decreases-loop-rest g l = left_weight l.stack.items
