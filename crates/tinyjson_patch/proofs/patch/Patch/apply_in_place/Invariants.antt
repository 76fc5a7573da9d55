use Rattle.std.proofs.Common.{◌≡◌, ◌≤◌, map, length}
use Rattle.tinyjson.specs.View.{view}
use Rattle.tinyjson_patch.specs.Operation.{action_of}
use Rattle.tinyjson_patch.specs.Patch.{actions_of, all_applied}
use Rattle.tinyjson_patch.specs.Running.{last_applied}
use Rattle.tinyjson_patch.proofs.patch.Patch.apply_in_place.Given as goal

abbrev pub invariant-loop-operation : goal.invariant-loop-operation
invariant-loop-operation l = (length l.rest ≤ l.total)
    × (last_applied l.total (map action_of l.rest) (view l.value) ≡ all_applied 0 (actions_of l.self) (view l.fn.value))

abbrev pub decreases-loop-operation : goal.decreases-loop-operation
decreases-loop-operation l = length l.rest
