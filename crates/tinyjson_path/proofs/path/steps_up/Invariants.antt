use Rattle.std.proofs.Common.{◌≡◌, ◌++◌, map, reverse}
use Rattle.tinyjson_path.specs.Nodes.{path_view}
use Rattle.tinyjson_path.specs.Seen.{step_view}
use Rattle.tinyjson_path.proofs.path.steps_up.Given as goal

abbrev pub invariant-loop-here : goal.invariant-loop-here
invariant-loop-here l = path_view l.here ++ reverse (map step_view l.steps.items) ≡ path_view l.location
