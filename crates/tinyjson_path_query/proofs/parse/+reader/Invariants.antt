use Rattle.std.proofs.Common.{◌+◌, ◌*◌, ◌-◌, List, length}
use Rattle.tinyjson_path_query.specs.Forms.{Selector, Segment, Basic, Expression, Each, IsSelector, IsSegment}
use Rattle.tinyjson_path_query.specs.Forms.{IsExpression, Argument}
use Rattle.tinyjson_path_query.specs.Fronts.{selection_turn, segments_turn, joined_turn, expression_front}
use Rattle.tinyjson_path_query.proofs.Levels.{basics_at, conjunctions_at, IsBasicAt, IsConjunctionAt}
use Rattle.tinyjson_path_query.proofs.Turns.{Goes}
use Rattle.tinyjson_path_query.proofs.parse.+reader.Given as goal

abbrev pub decreases-expression : goal.decreases-expression
decreases-expression l = 20 * l.levels

abbrev pub decreases-conjunction : goal.decreases-conjunction
decreases-conjunction l = 20 * l.levels + 18

abbrev pub decreases-basic : goal.decreases-basic
decreases-basic l = 20 * l.levels + 17

abbrev pub decreases-pattern_test : goal.decreases-pattern_test
decreases-pattern_test l = 20 * l.levels + 15

abbrev pub decreases-pattern_arguments : goal.decreases-pattern_arguments
decreases-pattern_arguments l = 20 * l.levels + 14

abbrev pub decreases-comparable : goal.decreases-comparable
decreases-comparable l = 20 * l.levels + 12

abbrev pub decreases-function : goal.decreases-function
decreases-function l = 20 * l.levels + 11

abbrev pub decreases-value_argument : goal.decreases-value_argument
decreases-value_argument l = 20 * l.levels + 10

abbrev pub decreases-argument : goal.decreases-argument
decreases-argument l = 20 * l.levels

abbrev pub decreases-query_argument : goal.decreases-query_argument
decreases-query_argument l = 20 * l.levels + 10

abbrev pub decreases-filter_query : goal.decreases-filter_query
decreases-filter_query l = 20 * l.levels + 9

abbrev pub decreases-operand : goal.decreases-operand
decreases-operand l = 20 * l.levels + 16

abbrev pub decreases-segments : goal.decreases-segments
decreases-segments l = 20 * l.levels + 5

abbrev pub decreases-segment : goal.decreases-segment
decreases-segment l = 20 * l.levels + 4

abbrev pub decreases-descendant : goal.decreases-descendant
decreases-descendant l = 20 * l.levels + 3

abbrev pub decreases-selection : goal.decreases-selection
decreases-selection l = 20 * l.levels + 2

abbrev pub decreases-selector : goal.decreases-selector
decreases-selector l = 20 * l.levels + 1

abbrev pub invariant-expression-loop-alternatives : goal.invariant-expression-loop-alternatives
invariant-expression-loop-alternatives l =
    (vs : List (List (Basic (Expression (l.levels - 1)) (Argument (l.levels - 1)))))
    × Each (IsConjunctionAt (l.levels - 1)) vs l.alternatives.items
    × Goes (joined_turn 124 (conjunctions_at (l.levels - 1))) l.fn.text vs l.rest

abbrev pub decreases-expression-loop-alternatives : goal.decreases-expression-loop-alternatives
decreases-expression-loop-alternatives l = length l.rest

abbrev pub invariant-conjunction-loop-conditions : goal.invariant-conjunction-loop-conditions
invariant-conjunction-loop-conditions l =
    (vs : List (Basic (Expression l.levels) (Argument l.levels))) × Each (IsBasicAt l.levels) vs l.conditions.items
    × Goes (joined_turn 38 (basics_at l.levels)) l.fn.text vs l.rest

abbrev pub decreases-conjunction-loop-conditions : goal.decreases-conjunction-loop-conditions
decreases-conjunction-loop-conditions l = length l.rest

abbrev pub invariant-segments-loop-alloc : goal.invariant-segments-loop-alloc
invariant-segments-loop-alloc l =
    (vs : List (Segment (Expression l.levels))) × Each (IsSegment (IsExpression l.levels)) vs l.segments.items
    × Goes (segments_turn (expression_front l.levels)) l.fn.text vs l.rest

abbrev pub decreases-segments-loop-alloc : goal.decreases-segments-loop-alloc
decreases-segments-loop-alloc l = length l.rest

abbrev pub invariant-selection-loop-selectors : goal.invariant-selection-loop-selectors
invariant-selection-loop-selectors l =
    (vs : List (Selector (Expression l.levels))) × Each (IsSelector (IsExpression l.levels)) vs l.selectors.items
    × Goes (selection_turn (expression_front l.levels)) l.fn.text vs l.rest

abbrev pub decreases-selection-loop-selectors : goal.decreases-selection-loop-selectors
decreases-selection-loop-selectors l = length l.rest
