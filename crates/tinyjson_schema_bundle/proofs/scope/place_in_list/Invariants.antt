use Rattle.std.proofs.Common.{◌≡◌, ◌≤◌, ◌+◌, ◌-◌, drop, length, map}
use Rattle.tinyjson_schema_bundle.specs.Scopes.{place_in_list, reached_of}
use Rattle.tinyjson_schema_bundle.proofs.scope.place_in_list.Given as goal

abbrev pub invariant-loop-index : goal.invariant-loop-index
invariant-loop-index l = (l.index ≤ length l.states) × (l.index
    + place_in_list (map reached_of (drop l.index l.states)) (reached_of l.state)
    ≡ place_in_list (map reached_of l.states) (reached_of l.state))

abbrev pub decreases-loop-index : goal.decreases-loop-index
decreases-loop-index l = length l.states - l.index
