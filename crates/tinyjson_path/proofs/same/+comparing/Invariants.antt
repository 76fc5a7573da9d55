use Rattle.std.proofs.Common.{◌≡◌, map, drop}
use Rattle.tinyjson_path.specs.Queries.{holds_of, segment_parts, selector_parts}
use Rattle.tinyjson_path.proofs.same.+comparing.Given as goal

abbrev pub invariant-are_same-loop-index : goal.invariant-are_same-loop-index
invariant-are_same-loop-index l =
    map segment_parts (drop l.index l.left) ≡ map segment_parts (drop l.index l.right)
    → map segment_parts l.left ≡ map segment_parts l.right

abbrev pub invariant-are_selectors_same-loop-index : goal.invariant-are_selectors_same-loop-index
invariant-are_selectors_same-loop-index l =
    map selector_parts (drop l.index l.left) ≡ map selector_parts (drop l.index l.right)
    → map selector_parts l.left ≡ map selector_parts l.right

abbrev pub invariant-are_expressions_same-loop-index : goal.invariant-are_expressions_same-loop-index
invariant-are_expressions_same-loop-index l =
    map holds_of (drop l.index l.left) ≡ map holds_of (drop l.index l.right) → map holds_of l.left ≡ map holds_of l.right
