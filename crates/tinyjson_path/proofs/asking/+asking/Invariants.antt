use Rattle.std.proofs.Common.{◌≡◌, map, drop}
use Rattle.tinyjson_path.specs.Asking.{any_true, in_segment, in_selector, in_expression}
use Rattle.tinyjson_path.proofs.asking.+asking.Given as goal

abbrev pub invariant-is_in_segments-loop-segment : goal.invariant-is_in_segments-loop-segment
invariant-is_in_segments-loop-segment l =
    any_true (map in_segment (drop l.segment-index l.segments)) ≡ any_true (map in_segment l.segments)

abbrev pub invariant-is_in_selectors-loop-selector : goal.invariant-is_in_selectors-loop-selector
invariant-is_in_selectors-loop-selector l =
    any_true (map in_selector (drop l.selector-index l.selectors)) ≡ any_true (map in_selector l.selectors)

abbrev pub invariant-is_in_expressions-loop-expression : goal.invariant-is_in_expressions-loop-expression
invariant-is_in_expressions-loop-expression l =
    any_true (map in_expression (drop l.expression-index l.expressions)) ≡ any_true (map in_expression l.expressions)
