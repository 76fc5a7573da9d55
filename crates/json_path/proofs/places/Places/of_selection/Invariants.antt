use Rattle.std.proofs.Common.{◌≡◌, ◌||◌, List, length}
use Rattle.tinyjson_path.specs.Nodes.{Step}
use Rattle.tinyjson_path.specs.Selections.{left, sources}
use Rattle.json_path.specs.Places.{has_path, IsBounded}
use Rattle.json_path.specs.Without.{is_at}
use Rattle.json_path.proofs.places.Places.of_selection.Given as goal

abbrev pub invariant-loop-places : goal.invariant-loop-places
invariant-loop-places l = record {
  bounded : IsBounded l.places;
  sources : sources l.selection ≡ sources l.fn.selection;
  paths : (path : List Step) → (has_path l.places path || is_at (left l.selection) path) ≡ is_at (left l.fn.selection) path;
}

abbrev pub decreases-loop-places : goal.decreases-loop-places
decreases-loop-places l = length (left l.selection)
