use Rattle.std.proofs.Common.{◌≡◌, ◌++◌, map, length}
use Rattle.std.specs.Box.{box_value}
use Rattle.tinyjson_patch.proofs.boxes.boxed.Given as goal

abbrev pub invariant-loop-item : goal.invariant-loop-item
invariant-loop-item l = map box_value l.boxes.items ++ l.rest.items ≡ l.fn.items.items

abbrev pub decreases-loop-item : goal.decreases-loop-item
decreases-loop-item l = length l.rest.items
