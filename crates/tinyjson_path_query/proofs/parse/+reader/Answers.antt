use Rattle.std.proofs.Common.{◌≡◌, ◌∙◌, ◌∷◌, [], ◌++◌, ◌<◌, ◌-◌, true, false, None, Some, length, sym, ap, refl, subst, rules, arith}
use Rattle.std.specs.Prelude.{option_map}
use Rattle.tinyjson_path_query.specs.Forms as form
use Rattle.tinyjson_path_query.specs.Forms.{IsPlain, IsSelector, AreSelectorsIn, IsSegment, AreSegmentsIn}
use Rattle.tinyjson_path_query.specs.Forms.{IsExpression, IsArgument}
use Rattle.tinyjson_path_query.specs.Fronts.{begins_segment, selector_front, selection_turn, selection_front, segment_front, segments_turn}
use Rattle.tinyjson_path_query.specs.Fronts.{segments_front, joined_turn}
use Rattle.tinyjson_path_query.specs.Fronts.{expression_front, argument_front, behind_both, as_negated, begins_call, begins_pattern}
use Rattle.tinyjson_path_query.specs.Fronts.{filter_query_front}
use Rattle.tinyjson_path_query.specs.Grammar.{begins_with}
use Rattle.tinyjson_path_query.specs.Reading.{IsRest}
use Rattle.tinyjson_path_query.proofs.Turns.{goes_init, goes_more, goes_last, goes_end, goes_none}
use Rattle.tinyjson_path_query.proofs.Refusals.{refused_as, fronts_from, fronts_map, each_none, each_pushed}
use Rattle.tinyjson_path_query.proofs.Levels.{
  selection_shortens,
  segments_shortens,
  conjunction_shortens,
  disjunction_shortens,
  basic_smaller,
}
use Rattle.tinyjson_path_query.proofs.Levels.{conjunction_smaller, segment_smaller, selector_smaller, filter_at, plain_from}
use Rattle.tinyjson_path_query.proofs.Levels.{selection_at, selection_none, segments_end, segments_more, segments_none, descendant_bracket}
use Rattle.tinyjson_path_query.proofs.Levels.{descendant_short, segment_bracket, segment_short, closed_at}
use Rattle.tinyjson_path_query.proofs.Levels.{query_from, call_from, literal_from, length_from}
use Rattle.tinyjson_path_query.proofs.Levels.{count_from, value_from, closed_from, begun_from}
use Rattle.tinyjson_path_query.proofs.Levels.{argument_at, no_argument, pattern_from, basics_at, conjunctions_at}
use Rattle.tinyjson_path_query.proofs.Levels.{IsOperandAt, IsComparableAt, IsBasicAt}
use Rattle.tinyjson_path_query.proofs.Levels.{IsConjunctionAt}
use Rattle.tinyjson_path_query.proofs.Levels.{pattern_at, match_from, search_from, arguments_at}
use Rattle.tinyjson_path_query.proofs.Levels.{operated_from, compared_at, tested_at, negated_from, affirmed_from, joined_at, joined_none}
use Rattle.tinyjson_path_query.proofs.Levels.{separator_nothing}
use Rattle.tinyjson_path_query.proofs.Levels.{separator_closes, separator_more, separator_other}
use Rattle.tinyjson_path_query.proofs.Levels.{one_selector, expression_at, expression_none}
use Rattle.tinyjson_path_query.proofs.parse.+reader.Goals as goal

pub segments-loop-alloc-init : goal.segments-loop-alloc-init
segments-loop-alloc-init t c = (
  [],
  each_none (IsSegment (IsExpression c.args.levels)) _ c.new-segments.ensures.items,
  goes_init
      (segments_turn (expression_front c.args.levels)) c.args.text.now,
)

pub segments-loop-alloc-smaller : goal.segments-loop-alloc-smaller
segments-loop-alloc-smaller t c =
    let s = c.in_ok-segment.ensures in
    segment_smaller c.args.levels c.loop-alloc.rest.now c.after_blanks-in-loop-alloc.result.now
    s.0 c.in_ok-segment.after.now c.after_blanks-in-loop-alloc.ensures s.1

pub segments-loop-alloc-preserved : goal.segments-loop-alloc-preserved
segments-loop-alloc-preserved t c =
    let held = c.loop-alloc.invariant in
    let s = c.in_ok-segment.ensures in
    let begins : begins_segment c.after_blanks.result.now ≡ true = search rules in (
      held.0 ++ s.0 ∷ [],
      each_pushed (IsSegment (IsExpression c.args.levels)) held.0 s.0 _ _ _ c.in_ok-push.ensures.items held.1 s.2,
      goes_more (segments_turn (expression_front c.args.levels)) (segments_shortens c.args.levels) c.args.text.now held.0
          c.loop-alloc.rest.now s.0 c.in_ok-segment.after.now held.2
          (segments_more (expression_front c.args.levels) c.loop-alloc.rest.now c.after_blanks.result.now
          c.after_blanks-in-loop-alloc.result.now s.0
          c.in_ok-segment.after.now c.after_blanks.ensures begins c.after_blanks-in-loop-alloc.ensures s.1),
    )

pub segments-returns-in_err-segment : goal.segments-returns-in_err-segment
segments-returns-in_err-segment t c =
    let held = c.loop-alloc.invariant in
    let begins : begins_segment c.after_blanks.result.now ≡ true = search rules in
    refused_as (AreSegmentsIn (IsExpression c.args.levels)) (segments_front (expression_front c.args.levels) c.args.text.now)
    (segment_front (expression_front c.args.levels) c.after_blanks-in-loop-alloc.result.now) c.in_err-segment.field-0.0 _
    c.from_residual.ensures.1 c.in_err-segment.ensures
    (λ none. goes_none (segments_turn (expression_front c.args.levels)) (segments_shortens c.args.levels) c.args.text.now held.0
    c.loop-alloc.rest.now held.2
    (segments_none (expression_front c.args.levels) c.loop-alloc.rest.now c.after_blanks.result.now
    c.after_blanks-in-loop-alloc.result.now c.after_blanks.ensures begins
    c.after_blanks-in-loop-alloc.ensures none))

pub segments-returns : goal.segments-returns
segments-returns t c =
    let held = c.loop-alloc.invariant in
    let ends : begins_segment c.after_blanks.result.now ≡ false = search rules in (
      held.0,
      goes_end (segments_turn (expression_front c.args.levels)) (segments_shortens c.args.levels) c.args.text.now held.0
          c.loop-alloc.rest.now c.loop-alloc.rest.now held.2
          (segments_end (expression_front c.args.levels) c.loop-alloc.rest.now c.after_blanks.result.now c.after_blanks.ensures ends),
      held.1,
    )

pub segment-returns-then-first-eq91 : goal.segment-returns-then-first-eq91
segment-returns-then-first-eq91 t c =
    let s = c.in_ok-selectors.ensures in (
      form.child s.0,
      segment_bracket (expression_front c.args.levels) c.args.text.now _ c.in-Some.first.now s.0 _ c.in-Some.ensures.cases.0
          c.if-first-eq91.true s.1,
      (c.in_ok-selectors.selectors, refl, s.2),
    )

pub segment-returns : goal.segment-returns
segment-returns t c =
    let s = c.in_ok-selectors-2.ensures in (
      form.child (form.plain s.0 ∷ []),
      segment_short (expression_front c.args.levels) c.args.text.now _ _ c.in-Some.first.now c.in-Some-split_first.next.now s.0 _
          c.in-Some.ensures.cases.0
          c.if-first-ne46.false c.in-Some-split_first.ensures.cases.0 c.if-next-eq46.false s.1,
      (c.in_ok-selectors-2.selectors, refl, one_selector (IsExpression c.args.levels) s.0 _ s.2),
    )

pub descendant-returns-then-first-eq91 : goal.descendant-returns-then-first-eq91
descendant-returns-then-first-eq91 t c =
    let s = c.in_ok-selectors.ensures in (
      form.descendant s.0,
      descendant_bracket (expression_front c.args.levels) c.args.text.now _ c.in-Some.first.now s.0 _ c.in-Some.ensures.cases.0
          c.if-first-eq91.true s.1,
      (c.in_ok-selectors.selectors, refl, s.2),
    )

pub descendant-returns : goal.descendant-returns
descendant-returns t c =
    let s = c.in_ok-selectors-2.ensures in (
      form.descendant (form.plain s.0 ∷ []),
      descendant_short (expression_front c.args.levels) c.args.text.now _ c.in-Some.first.now s.0 _ c.in-Some.ensures.cases.0
          c.if-first-eq91.false s.1,
      (c.in_ok-selectors-2.selectors, refl, one_selector (IsExpression c.args.levels) s.0 _ s.2),
    )

pub selection-loop-selectors-init : goal.selection-loop-selectors-init
selection-loop-selectors-init t c = (
  [],
  each_none (IsSelector (IsExpression c.args.levels)) _ c.new-selectors.ensures.items,
  goes_init (selection_turn (expression_front c.args.levels)) c.args.text.now,
)

pub selection-loop-selectors-smaller : goal.selection-loop-selectors-smaller
selection-loop-selectors-smaller t c =
    let s = c.in_ok-selector.ensures in
    let fewer : length c.in_ok-selector.after.now < length c.loop-selectors.rest.now =
    selector_smaller c.args.levels _ _ s.0 c.in_ok-selector.after.now c.after_blanks.ensures s.1 in
    omega (arith, ap length c.in-Some.ensures.cases.0)

pub selection-loop-selectors-preserved : goal.selection-loop-selectors-preserved
selection-loop-selectors-preserved t c =
    let held = c.loop-selectors.invariant in
    let s = c.in_ok-selector.ensures in (
      held.0 ++ s.0 ∷ [],
      each_pushed (IsSelector (IsExpression c.args.levels)) held.0 s.0 _ _ _ c.in_ok-push.ensures.items held.1 s.2,
      goes_more (selection_turn (expression_front c.args.levels)) (selection_shortens c.args.levels) c.args.text.now held.0
          c.loop-selectors.rest.now s.0 c.in-Some.behind.now held.2
          (selection_at (expression_front c.args.levels) c.loop-selectors.rest.now c.after_blanks.result.now s.0
          c.in_ok-selector.after.now c.after_blanks.ensures s.1
          ∙ separator_more s.0 _ _ c.in-Some.separator.now c.in-Some.ensures.cases.0 c.if-separator-ne44.false),
    )

pub selection-returns-then-separator-eq93 : goal.selection-returns-then-separator-eq93
selection-returns-then-separator-eq93 t c =
    let held = c.loop-selectors.invariant in
    let s = c.in_ok-selector.ensures in (
      held.0 ++ s.0 ∷ [],
      goes_last (selection_turn (expression_front c.args.levels)) (selection_shortens c.args.levels) c.args.text.now held.0
          c.loop-selectors.rest.now s.0 c.in-Some.behind.now held.2
          (selection_at (expression_front c.args.levels) c.loop-selectors.rest.now c.after_blanks.result.now s.0
          c.in_ok-selector.after.now c.after_blanks.ensures s.1
          ∙ separator_closes s.0 _ _ c.in-Some.separator.now c.in-Some.ensures.cases.0 c.if-separator-eq93.true),
      each_pushed (IsSelector (IsExpression c.args.levels)) held.0 s.0 _ _ _ c.in_ok-push.ensures.items held.1 s.2,
    )

pub selection-returns-in_err-selector : goal.selection-returns-in_err-selector
selection-returns-in_err-selector t c =
    let held = c.loop-selectors.invariant in
    refused_as (AreSelectorsIn (IsExpression c.args.levels)) (selection_front (expression_front c.args.levels) c.args.text.now)
    (selector_front (expression_front c.args.levels) c.after_blanks.result.now) c.in_err-selector.field-0.0 _
    c.from_residual.ensures.1 c.in_err-selector.ensures
    (λ none. goes_none (selection_turn (expression_front c.args.levels)) (selection_shortens c.args.levels) c.args.text.now held.0
    c.loop-selectors.rest.now held.2
    (selection_none (expression_front c.args.levels) c.loop-selectors.rest.now c.after_blanks.result.now c.after_blanks.ensures none))

pub selection-returns-in_default : goal.selection-returns-in_default
selection-returns-in_default t c = λ _.
    let held = c.loop-selectors.invariant in
    let s = c.in_ok-selector.ensures in
    goes_none (selection_turn (expression_front c.args.levels)) (selection_shortens c.args.levels) c.args.text.now held.0
    c.loop-selectors.rest.now held.2
    (selection_at (expression_front c.args.levels) c.loop-selectors.rest.now c.after_blanks.result.now s.0 c.in_ok-selector.after.now
    c.after_blanks.ensures s.1
    ∙ separator_nothing s.0 _ c.in_default.ensures.cases)

pub selection-returns-then-separator-ne44 : goal.selection-returns-then-separator-ne44
selection-returns-then-separator-ne44 t c = λ _.
    let held = c.loop-selectors.invariant in
    let s = c.in_ok-selector.ensures in
    goes_none (selection_turn (expression_front c.args.levels)) (selection_shortens c.args.levels) c.args.text.now held.0
    c.loop-selectors.rest.now held.2
    (selection_at (expression_front c.args.levels) c.loop-selectors.rest.now c.after_blanks.result.now s.0 c.in_ok-selector.after.now
    c.after_blanks.ensures s.1
    ∙ separator_other s.0 _ _ c.in-Some.separator.now c.in-Some.ensures.cases.0 c.if-separator-eq93.false c.if-separator-ne44.true)

pub selector-returns-then-first-eq63 : goal.selector-returns-then-first-eq63
selector-returns-then-first-eq63 t c =
    let s = c.in_ok-condition.ensures in (
      form.filter s.0,
      filter_at (expression_front c.args.levels) c.args.text.now _ _ c.in-Some.first.now s.0 _ c.in-Some.ensures.cases.0
          c.if-first-eq63.true c.after_blanks.ensures s.1,
      (c.in_ok-condition.condition, refl, s.2),
    )

pub selector-returns : goal.selector-returns
selector-returns t c =
    fronts_map IsPlain (IsSelector (IsExpression c.args.levels)) form.plain _ _ c.plain_selector.result
    (plain_from (expression_front c.args.levels) c.args.text.now _ c.in-Some.first.now c.in-Some.ensures.cases.0 c.if-first-eq63.false)
    (λ v x h. h) c.plain_selector.ensures

pub basic-returns-then-first-eq33 : goal.basic-returns-then-first-eq33
basic-returns-then-first-eq33 t c =
    let s = c.in_ok-condition.ensures in (
      form.negated s.0,
      negated_from (expression_front c.args.levels) (argument_front c.args.levels) c.args.text.now _ _ c.in-Some.first.now
          c.in-Some.ensures.cases.0
          c.if-first-eq33.true c.after_blanks.ensures ∙ ap (option_map as_negated) s.1,
      (c.in_ok-new.field-0, refl, subst (IsOperandAt c.args.levels s.0) (sym c.in_ok-new.ensures.ok) s.2),
    )

pub basic-returns-then-first-eq40 : goal.basic-returns-then-first-eq40
basic-returns-then-first-eq40 t c =
    fronts_map (IsOperandAt c.args.levels) (IsBasicAt c.args.levels) form.affirmed _ _ c.operand-then-first-eq40.result
    (affirmed_from (expression_front c.args.levels) (argument_front c.args.levels) c.args.text.now _ c.in-Some.first.now
    c.in-Some.ensures.cases.0 c.if-first-eq40.true)
    (λ v x h. h) c.operand-then-first-eq40.ensures

pub basic-returns-then-begins_pattern : goal.basic-returns-then-begins_pattern
basic-returns-then-begins_pattern t c =
    let pattern : begins_pattern c.in-Some.first.now ≡ true = search rules in
    fronts_map (IsOperandAt c.args.levels) (IsBasicAt c.args.levels) form.affirmed _ _ c.operand-then-begins_pattern.result
    (pattern_from (expression_front c.args.levels) (argument_front c.args.levels) c.args.text.now _ c.in-Some.first.now
    c.in-Some.ensures.cases.0 c.if-first-eq33.false c.if-first-eq40.false pattern)
    (λ v x h. h) c.operand-then-begins_pattern.ensures

pub basic-returns-in_default-operator : goal.basic-returns-in_default-operator
basic-returns-in_default-operator t c =
    let l = c.in_ok-left.ensures in
    let other : begins_pattern c.in-Some.first.now ≡ false = search rules in
    fronts_map (IsOperandAt c.args.levels) (IsBasicAt c.args.levels) form.affirmed _ _ c.operand-in_default-operator.result
    (operated_from (expression_front c.args.levels) (argument_front c.args.levels) c.args.text.now _ c.in-Some.first.now l.0
    c.in_ok-left.after.now _ None
    c.in-Some.ensures.cases.0 c.if-first-eq33.false c.if-first-eq40.false other l.1 c.after_blanks-2.ensures c.in_default-operator.ensures)
    (λ v x h. h) c.operand-in_default-operator.ensures

pub basic-returns : goal.basic-returns
basic-returns t c =
    let l = c.in_ok-left.ensures in
    let r = c.in_ok-right.ensures in
    let other : begins_pattern c.in-Some.first.now ≡ false = search rules in (
      form.comparison c.in-Some-operator.operator l.0 r.0,
      compared_at (expression_front c.args.levels) (argument_front c.args.levels) c.args.text.now _ c.in-Some.first.now l.0 r.0
          c.in-Some-operator.operator
          c.in_ok-left.after.now _ c.in-Some-operator.behind.now _ c.in_ok-right.rest.now _ c.in-Some.ensures.cases.0
          c.if-first-eq33.false c.if-first-eq40.false other l.1 c.after_blanks-2.ensures c.in-Some-operator.ensures
          c.after_blanks-3.ensures r.1 c.after_blanks-4.ensures,
      (
        c.in_ok-new-2.field-0,
        c.in_ok-new-3.field-0,
        refl,
        subst (IsComparableAt c.args.levels l.0) (sym c.in_ok-new-2.ensures.ok) l.2,
        subst (IsComparableAt c.args.levels r.0) (sym c.in_ok-new-3.ensures.ok) r.2,
      ),
    )

pub operand-returns-then-first-eq40 : goal.operand-returns-then-first-eq40
operand-returns-then-first-eq40 t c =
    let s = c.in_ok-condition.ensures in (
      form.parenthesized s.0,
      closed_at (expression_front c.args.levels) (argument_front c.args.levels) c.args.text.now _ _ _ _ _ c.in-Some.first.now s.0
          c.in-Some.ensures.cases.0
          c.if-first-eq40.true c.after_blanks.ensures s.1 c.in-Some-behind.ensures c.after_blanks-then-first-eq40.ensures,
      s.2,
    )

pub operand-returns : goal.operand-returns
operand-returns t c =
    let s = c.in_ok-segments.ensures in (
      form.test c.in-Some-origin.origin s.0,
      tested_at (expression_front c.args.levels) (argument_front c.args.levels) c.args.text.now _ _ _ c.in-Some.first.now
          c.in-Some-origin.origin s.0
          c.in-Some.ensures.cases.0 c.if-first-eq40.false (sym c.origin.ensures ∙ c.in-Some-origin.is) s.1 c.after_blanks-2.ensures,
      (c.in_ok-segments.segments, refl, s.2),
    )

pub operand-returns-in_default-origin : goal.operand-returns-in_default-origin
operand-returns-in_default-origin t c =
    fronts_from (IsOperandAt c.args.levels) _ _ c.pattern_test.result
    (pattern_at (expression_front c.args.levels) (argument_front c.args.levels) c.args.text.now _ c.in-Some.first.now
    c.in-Some.ensures.cases.0 c.if-first-eq40.false (sym c.origin.ensures ∙ c.in_default-origin.is)) c.pattern_test.ensures

pub conjunction-loop-conditions-init : goal.conjunction-loop-conditions-init
conjunction-loop-conditions-init t c = (
  [],
  each_none (IsBasicAt c.args.levels) _ c.new-conditions.ensures.items,
  goes_init (joined_turn 38 (basics_at c.args.levels)) c.args.text.now,
)

pub conjunction-loop-conditions-smaller : goal.conjunction-loop-conditions-smaller
conjunction-loop-conditions-smaller t c =
    let s = c.in_ok-condition.ensures in
    basic_smaller c.args.levels c.loop-conditions.rest.now s.0 c.in_ok-condition.after.now c.in-Some.more.now s.1
    (subst (IsRest (behind_both 38 c.in_ok-condition.after.now)) c.in-Some.is c.behind_both.ensures)

pub conjunction-loop-conditions-preserved : goal.conjunction-loop-conditions-preserved
conjunction-loop-conditions-preserved t c =
    let held = c.loop-conditions.invariant in
    let s = c.in_ok-condition.ensures in
    let more = subst (IsRest (behind_both 38 c.in_ok-condition.after.now)) c.in-Some.is c.behind_both.ensures in (
      held.0 ++ s.0 ∷ [],
      each_pushed (IsBasicAt c.args.levels) held.0 s.0 _ _ _ c.in_ok-push.ensures.items held.1 s.2,
      goes_more (joined_turn 38 (basics_at c.args.levels)) (conjunction_shortens c.args.levels) c.args.text.now
          held.0 c.loop-conditions.rest.now s.0 c.in-Some.more.now held.2
          (joined_at (basics_at c.args.levels) 38 c.loop-conditions.rest.now s.0 c.in_ok-condition.after.now _
          s.1 more),
    )

pub conjunction-returns-in_default : goal.conjunction-returns-in_default
conjunction-returns-in_default t c =
    let held = c.loop-conditions.invariant in
    let s = c.in_ok-condition.ensures in
    let none = subst (IsRest (behind_both 38 c.in_ok-condition.after.now)) c.in_default.is c.behind_both.ensures in (
      held.0 ++ s.0 ∷ [],
      goes_last (joined_turn 38 (basics_at c.args.levels)) (conjunction_shortens c.args.levels) c.args.text.now
          held.0
          c.loop-conditions.rest.now s.0 c.in_ok-condition.after.now held.2
          (joined_at (basics_at c.args.levels) 38 c.loop-conditions.rest.now s.0 c.in_ok-condition.after.now _
          s.1 none),
      (
        c.push.new.self,
        refl,
        each_pushed (IsBasicAt c.args.levels) held.0 s.0 _ _ _ c.in_ok-push.ensures.items held.1 s.2,
      ),
    )

pub expression-loop-alternatives-init : goal.expression-loop-alternatives-init
expression-loop-alternatives-init t c = (
  [],
  each_none (IsConjunctionAt (c.args.levels - 1)) _ c.new-alternatives.ensures.items,
  goes_init (joined_turn 124 (conjunctions_at (c.args.levels - 1))) c.args.text.now,
)

pub expression-loop-alternatives-smaller : goal.expression-loop-alternatives-smaller
expression-loop-alternatives-smaller t c =
    let s = c.in_ok-alternative.ensures in
    conjunction_smaller (c.args.levels - 1) c.loop-alternatives.rest.now s.0 c.in_ok-alternative.after.now c.in-Some.more.now s.1
    (subst (IsRest (behind_both 124 c.in_ok-alternative.after.now)) c.in-Some.is c.behind_both.ensures)

pub expression-loop-alternatives-preserved : goal.expression-loop-alternatives-preserved
expression-loop-alternatives-preserved t c =
    let held = c.loop-alternatives.invariant in
    let s = c.in_ok-alternative.ensures in
    let more = subst (IsRest (behind_both 124 c.in_ok-alternative.after.now)) c.in-Some.is c.behind_both.ensures in (
      held.0 ++ s.0 ∷ [],
      each_pushed (IsConjunctionAt (c.args.levels - 1)) held.0 s.0 _ _ _ c.in_ok-push.ensures.items held.1 s.2,
      goes_more (joined_turn 124 (conjunctions_at (c.args.levels - 1)))
          (disjunction_shortens (c.args.levels - 1)) c.args.text.now held.0 c.loop-alternatives.rest.now s.0 c.in-Some.more.now held.2
          (joined_at (conjunctions_at (c.args.levels - 1)) 124 c.loop-alternatives.rest.now s.0
          c.in_ok-alternative.after.now _ s.1 more),
    )

pub expression-returns-in_default : goal.expression-returns-in_default
expression-returns-in_default t c =
    let held = c.loop-alternatives.invariant in
    let s = c.in_ok-alternative.ensures in
    let none = subst (IsRest (behind_both 124 c.in_ok-alternative.after.now)) c.in_default.is c.behind_both.ensures in
    expression_at c.args.levels (c.args.levels - 1) c.args.text.now (held.0 ++ s.0 ∷ []) c.in_ok-alternative.after.now _
    (omega (arith, c.if-levels-eq0.false))
    (goes_last (joined_turn 124 (conjunctions_at (c.args.levels - 1))) (disjunction_shortens (c.args.levels - 1))
    c.args.text.now held.0 c.loop-alternatives.rest.now s.0 c.in_ok-alternative.after.now held.2
    (joined_at (conjunctions_at (c.args.levels - 1)) 124 c.loop-alternatives.rest.now s.0
    c.in_ok-alternative.after.now _ s.1 none)) (
      c.push.new.self,
      refl,
      each_pushed (IsConjunctionAt (c.args.levels - 1)) held.0 s.0 _ _ _ c.in_ok-push.ensures.items held.1 s.2,
    )

pub expression-returns-in_err-alternative : goal.expression-returns-in_err-alternative
expression-returns-in_err-alternative t c =
    let held = c.loop-alternatives.invariant in
    refused_as (IsExpression c.args.levels) (expression_front c.args.levels c.args.text.now)
    (conjunctions_at (c.args.levels - 1) c.loop-alternatives.rest.now) c.in_err-alternative.field-0.0 _
    c.from_residual.ensures.1 c.in_err-alternative.ensures
    (λ none. expression_none c.args.levels (c.args.levels - 1) c.args.text.now (omega (arith, c.if-levels-eq0.false))
    (goes_none (joined_turn 124 (conjunctions_at (c.args.levels - 1))) (disjunction_shortens (c.args.levels - 1))
    c.args.text.now held.0 c.loop-alternatives.rest.now held.2
    (joined_none (conjunctions_at (c.args.levels - 1)) 124 c.loop-alternatives.rest.now none)))

pub pattern_test-returns-in-Some : goal.pattern_test-returns-in-Some
pattern_test-returns-in-Some t c =
    fronts_from (IsOperandAt c.args.levels) _ _ c.pattern_arguments.result
    (match_from (argument_front c.args.levels) c.args.text.now _ _ c.in-Some.ensures refl) c.pattern_arguments.ensures

pub pattern_test-returns : goal.pattern_test-returns
pattern_test-returns t c =
    fronts_from (IsOperandAt c.args.levels) _ _ c.pattern_arguments-2.result
    (search_from (argument_front c.args.levels) c.args.text.now _ _ c.in_default.ensures c.in-Some-behind_word.ensures refl)
    c.pattern_arguments-2.ensures

pub pattern_arguments-returns : goal.pattern_arguments-returns
pattern_arguments-returns t c =
    let v = c.in_ok-value.ensures in
    let p = c.in_ok-pattern.ensures in (
      form.pattern c.args.function v.0 p.0,
      arguments_at (argument_front c.args.levels) c.args.function c.args.text.now _ c.in_ok-value.after.now _ _ c.in_ok-pattern.behind.now
          _ v.0 p.0 c.after_blanks.ensures v.1 c.after_blanks-rest.ensures c.in-Some.ensures p.1 c.after_blanks-2.ensures,
      (
        c.in_ok-new.field-0,
        c.in_ok-new-2.field-0,
        refl,
        subst (IsArgument c.args.levels v.0) (sym c.in_ok-new.ensures.ok) v.2,
        subst (IsArgument c.args.levels p.0) (sym c.in_ok-new-2.ensures.ok) p.2,
      ),
    )

pub comparable-returns-in-Some-origin : goal.comparable-returns-in-Some-origin
comparable-returns-in-Some-origin t c =
    let s = c.in_ok-segments.ensures in (
      form.singular c.in-Some-origin.origin s.0,
      query_from (expression_front c.args.levels) (argument_front c.args.levels) c.args.text.now _ c.in-Some.first.now
          c.in-Some-origin.origin
          (Some (s.0, c.in_ok-segments.after.now)) c.in-Some.ensures.cases.0 (sym c.origin.ensures ∙ c.in-Some-origin.is) s.1,
      (c.in_ok-segments.segments, refl, s.2),
    )

pub comparable-returns-then-begins_call : goal.comparable-returns-then-begins_call
comparable-returns-then-begins_call t c =
    let s = c.in_ok-function.ensures in
    let call : begins_call c.in-Some.first.now ≡ true = search rules in (
      form.function s.0,
      call_from (expression_front c.args.levels) (argument_front c.args.levels) c.args.text.now _ c.in-Some.first.now
          (Some (s.0, c.in_ok-function.after.now))
          c.in-Some.ensures.cases.0 (sym c.origin.ensures ∙ c.in_default-origin.is) call s.1,
      (c.in_ok-function.function, refl, s.2),
    )

pub comparable-returns : goal.comparable-returns
comparable-returns t c =
    let s = c.in_ok-literal.ensures in
    let call : begins_call c.in-Some.first.now ≡ false = search rules in (
      form.literal s.0,
      literal_from (expression_front c.args.levels) (argument_front c.args.levels) c.args.text.now _ c.in-Some.first.now
          (Some (s.0, c.in_ok-literal.after.now))
          c.in-Some.ensures.cases.0 (sym c.origin.ensures ∙ c.in_default-origin.is) call s.1,
      (c.in_ok-literal.literal, refl, s.2),
    )

pub function-returns-in-Some : goal.function-returns-in-Some
function-returns-in-Some t c =
    let s = c.in_ok-value.ensures in (
      form.length s.0,
      length_from (expression_front c.args.levels) (argument_front c.args.levels) c.args.text.now _
          (Some (s.0, c.in_ok-value.after.now)) c.in-Some.ensures s.1,
      (c.in_ok-new.field-0, refl, subst (IsArgument c.args.levels s.0) (sym c.in_ok-new.ensures.ok) s.2),
    )

pub function-returns-in-Some-behind_word : goal.function-returns-in-Some-behind_word
function-returns-in-Some-behind_word t c =
    let s = c.in_ok-query.ensures in (
      form.count s.0.0 s.0.1,
      count_from (expression_front c.args.levels) (argument_front c.args.levels) c.args.text.now _ (Some (s.0, c.in_ok-query.after.now))
          c.in_default.ensures
          c.in-Some-behind_word.ensures s.1,
      (c.in_ok-query.query, refl, s.2),
    )

pub function-returns : goal.function-returns
function-returns t c =
    let s = c.in_ok-query-2.ensures in (
      form.value s.0.0 s.0.1,
      value_from (expression_front c.args.levels) (argument_front c.args.levels) c.args.text.now _
          (Some (s.0, c.in_ok-query-2.after.now)) c.in_default.ensures
          c.in_default-behind_word.ensures c.in-Some-behind_word-2.ensures s.1,
      (c.in_ok-query-2.query, refl, s.2),
    )

pub value_argument-returns : goal.value_argument-returns
value_argument-returns t c =
    let s = c.in_ok-value.ensures in (
      s.0,
      closed_from (argument_front c.args.levels) c.args.text.now _ c.in_ok-value.after.now _ s.0 _ c.after_blanks.ensures s.1
          c.after_blanks-rest.ensures c.in-Some.ensures,
      s.2,
    )

pub query_argument-returns : goal.query_argument-returns
query_argument-returns t c =
    let s = c.in_ok-query.ensures in (
      s.0,
      closed_from (filter_query_front (expression_front c.args.levels)) c.args.text.now _ c.in_ok-query.after.now _ s.0 _
          c.after_blanks.ensures s.1
          c.after_blanks-rest.ensures c.in-Some.ensures,
      s.2,
    )

pub filter_query-returns : goal.filter_query-returns
filter_query-returns t c =
    let s = c.in_ok-segments.ensures in (
      (c.in-Some-origin.origin, s.0),
      begun_from (expression_front c.args.levels) c.args.text.now _ c.in-Some.first.now c.in-Some-origin.origin
          (Some (s.0, c.in_ok-segments.after.now)) c.in-Some.ensures.cases.0 (sym c.origin.ensures ∙ c.in-Some-origin.is) s.1,
      (c.in_ok-segments.segments, refl, s.2),
    )

pub argument-returns-then-begins_with : goal.argument-returns-then-begins_with
argument-returns-then-begins_with t c = λ _.
    let closes : begins_with 41 c.args.text.now ≡ true = search rules in
    no_argument c.args.levels c.args.text.now closes

pub argument-returns : goal.argument-returns
argument-returns t c =
    argument_at c.args.levels (c.args.levels - 1) c.args.text.now c.comparable.result (omega (arith, c.if-levels-eq0.false))
    c.comparable.ensures

pub basic-returns-in_err-condition : goal.basic-returns-in_err-condition
basic-returns-in_err-condition t c =
    refused_as _ _ _ c.in_err-condition.field-0.0 _ c.from_residual.ensures.1 c.in_err-condition.ensures (λ none. search rules)

pub basic-returns-in_err-left : goal.basic-returns-in_err-left
basic-returns-in_err-left t c =
    refused_as _ _ _ c.in_err-left.field-0.0 _ c.from_residual-in_err-left.ensures.1 c.in_err-left.ensures (λ none. search rules)

pub basic-returns-in_err-right : goal.basic-returns-in_err-right
basic-returns-in_err-right t c =
    refused_as _ _ _ c.in_err-right.field-0.0 _ c.from_residual-in_err-right.ensures.1 c.in_err-right.ensures (λ none. search rules)

pub comparable-returns-in_err-function : goal.comparable-returns-in_err-function
comparable-returns-in_err-function t c =
    refused_as _ _ _ c.in_err-function.field-0.0 _ c.from_residual-in_err-function.ensures.1 c.in_err-function.ensures (λ none. search rules)

pub comparable-returns-in_err-literal : goal.comparable-returns-in_err-literal
comparable-returns-in_err-literal t c =
    refused_as _ _ _ c.in_err-literal.field-0.0 _ c.from_residual-in_err-literal.ensures.1 c.in_err-literal.ensures (λ none. search rules)

pub comparable-returns-in_err-segments : goal.comparable-returns-in_err-segments
comparable-returns-in_err-segments t c =
    refused_as _ _ _ c.in_err-segments.field-0.0 _ c.from_residual.ensures.1 c.in_err-segments.ensures (λ none. search rules)

pub conjunction-returns-in_err-condition : goal.conjunction-returns-in_err-condition
conjunction-returns-in_err-condition t c =
    refused_as _ _ _ c.in_err-condition.field-0.0 _ c.from_residual.ensures.1 c.in_err-condition.ensures (λ none. search rules)

pub descendant-returns-in_err-selectors : goal.descendant-returns-in_err-selectors
descendant-returns-in_err-selectors t c =
    refused_as _ _ _ c.in_err-selectors.field-0.0 _ c.from_residual.ensures.1 c.in_err-selectors.ensures (λ none. search rules)

pub descendant-returns-in_err-selectors-2 : goal.descendant-returns-in_err-selectors-2
descendant-returns-in_err-selectors-2 t c =
    refused_as _ _ _ c.in_err-selectors-2.field-0.0 _ c.from_residual-in_err-selectors-2.ensures.1 c.in_err-selectors-2.ensures (λ none. search rules)

pub filter_query-returns-in_err-segments : goal.filter_query-returns-in_err-segments
filter_query-returns-in_err-segments t c =
    refused_as _ _ _ c.in_err-segments.field-0.0 _ c.from_residual.ensures.1 c.in_err-segments.ensures (λ none. search rules)

pub function-returns-in_err-query : goal.function-returns-in_err-query
function-returns-in_err-query t c =
    refused_as _ _ _ c.in_err-query.field-0.0 _ c.from_residual-in_err-query.ensures.1 c.in_err-query.ensures (λ none. search rules)

pub function-returns-in_err-query-2 : goal.function-returns-in_err-query-2
function-returns-in_err-query-2 t c =
    refused_as _ _ _ c.in_err-query-2.field-0.0 _ c.from_residual-in_err-query-2.ensures.1 c.in_err-query-2.ensures (λ none. search rules)

pub function-returns-in_err-value : goal.function-returns-in_err-value
function-returns-in_err-value t c =
    refused_as _ _ _ c.in_err-value.field-0.0 _ c.from_residual.ensures.1 c.in_err-value.ensures (λ none. search rules)

pub operand-returns-in_err-condition : goal.operand-returns-in_err-condition
operand-returns-in_err-condition t c =
    refused_as _ _ _ c.in_err-condition.field-0.0 _ c.from_residual.ensures.1 c.in_err-condition.ensures (λ none. search rules)

pub operand-returns-in_err-segments : goal.operand-returns-in_err-segments
operand-returns-in_err-segments t c =
    refused_as _ _ _ c.in_err-segments.field-0.0 _ c.from_residual-in_err-segments.ensures.1 c.in_err-segments.ensures (λ none. search rules)

pub pattern_arguments-returns-in_err-pattern : goal.pattern_arguments-returns-in_err-pattern
pattern_arguments-returns-in_err-pattern t c =
    refused_as _ _ _ c.in_err-pattern.field-0.0 _ c.from_residual-in_err-pattern.ensures.1 c.in_err-pattern.ensures (λ none. search rules)

pub pattern_arguments-returns-in_err-value : goal.pattern_arguments-returns-in_err-value
pattern_arguments-returns-in_err-value t c =
    refused_as _ _ _ c.in_err-value.field-0.0 _ c.from_residual.ensures.1 c.in_err-value.ensures (λ none. search rules)

pub query_argument-returns-in_err-query : goal.query_argument-returns-in_err-query
query_argument-returns-in_err-query t c =
    refused_as _ _ _ c.in_err-query.field-0.0 _ c.from_residual.ensures.1 c.in_err-query.ensures (λ none. search rules)

pub segment-returns-in_err-selectors : goal.segment-returns-in_err-selectors
segment-returns-in_err-selectors t c =
    refused_as _ _ _ c.in_err-selectors.field-0.0 _ c.from_residual.ensures.1 c.in_err-selectors.ensures (λ none. search rules)

pub segment-returns-in_err-selectors-2 : goal.segment-returns-in_err-selectors-2
segment-returns-in_err-selectors-2 t c =
    refused_as _ _ _ c.in_err-selectors-2.field-0.0 _ c.from_residual-in_err-selectors-2.ensures.1 c.in_err-selectors-2.ensures (λ none. search rules)

pub selector-returns-in_err-condition : goal.selector-returns-in_err-condition
selector-returns-in_err-condition t c =
    refused_as _ _ _ c.in_err-condition.field-0.0 _ c.from_residual.ensures.1 c.in_err-condition.ensures (λ none. search rules)

pub value_argument-returns-in_err-value : goal.value_argument-returns-in_err-value
value_argument-returns-in_err-value t c =
    refused_as _ _ _ c.in_err-value.field-0.0 _ c.from_residual.ensures.1 c.in_err-value.ensures (λ none. search rules)
