use Rattle.std.proofs.Common.{◌≡◌, map, drop}
use Rattle.tinyjson_path.specs.Comparing.{one_child}
use Rattle.tinyjson_path.proofs.same.are_steps_same.Given as goal

abbrev pub invariant-loop-index : goal.invariant-loop-index
invariant-loop-index l =
    map one_child (drop l.index l.left) ≡ map one_child (drop l.index l.right) → map one_child l.left ≡ map one_child l.right
