use Rattle.std.proofs.Common.{◌≡◌, ◌++◌, map, reverse, length}
use Rattle.tinyjson.specs.View.{text}
use Rattle.tinyjson_path.specs.Nodes.{path_view}
use Rattle.tinyjson_path.specs.Paths.{path_text, steps_text}
use Rattle.tinyjson_path.specs.Seen.{step_view}
use Rattle.tinyjson_path.proofs.path.path_text.Given as goal

abbrev pub invariant-loop-step : goal.invariant-loop-step
invariant-loop-step l = text l.path ++ steps_text (reverse (map step_view l.steps.items)) ≡ path_text (path_view l.location)

abbrev pub decreases-loop-step : goal.decreases-loop-step
decreases-loop-step l = length l.steps.items
