use Rattle.std.proofs.Common.{◌≡◌, ◌≤◌, ◌∙◌, ◌++◌, ◌+◌, [], ◌∷◌, arith, rules, length, min, drop, reverse}
use Rattle.std.proofs.Common.{ap, sym, subst, refl, option_map, Some}
use Rattle.std.specs.Prelude.{IfOk, IfErr}
use Rattle.std.specs.Box.{box_value}
use Rattle.tinyjson_path.proofs.Errors.{is_whole, is_left, is_right, is_one, node_within, error_of, error_from, error_of_pattern}
use Rattle.tinyjson_path.proofs.Errors.{same_result, part_result, answered, some_answered, error_at}
use Rattle.tinyjson_view.proofs.Callers.{drop_past}
use Rattle.tinyjson_path.proofs.Selected.{are_children, are_in, are_within, are_from}
use Rattle.tinyjson_path.proofs.Stated.{are_kept, child_strings, descendant_strings, filter_strings_are, or_strings, and_strings}
use Rattle.tinyjson_path.proofs.Stated.{not_strings, comparison_strings, test_strings, pattern_strings, length_strings}
use Rattle.tinyjson_path.proofs.Stated.{count_strings, value_strings, segments_of_query}
use Rattle.tinyjson_path.proofs.Chosen.{chosen_children}
use Rattle.tinyjson_view.proofs.Callers.{sorted_in, value_sound}
use Rattle.tinyjson_path.proofs.Repeating.{AreSound, puts_both, sound_none, sound_next, sound_skip, left_skip}
use Rattle.tinyjson_path.proofs.Waits.{less_popped}
use Rattle.tinyjson_path.proofs.Waits.{waits_popped, less_child, less_descendant, left_child, left_descendant, left_whole}
use Rattle.tinyjson_path.proofs.Waits.{one_more, one_less, next_at, first_strings, are_popped, are_pushed, chosen_within}
use Rattle.tinyjson_path.proofs.Within.{Within, within_self, within_trans, within_same, of_query, from_same}
use Rattle.tinyjson_path.specs.Answers.{answer_of, found_view}
use Rattle.tinyjson_path.specs.Comparing.{length_of, origin_tree}
use Rattle.tinyjson_path.specs.Nodes.{Takes, path_of, part_view, parts_view, children}
use Rattle.tinyjson_view.specs.Views.{tree_of}
use Rattle.tinyjson_path.specs.Queries.{selected_by, found_by, is_some_part, kept}
use Rattle.tinyjson_path.specs.Seen.{operand_tree}
use Rattle.tinyjson_path.specs.Strings.{strings_in, segment_strings, selector_strings, expression_strings, comparable_strings}
use Rattle.tinyjson_path.specs.Strings.{segments_strings, selectors_strings, filter_strings, IsFromAny}
use Rattle.tinyjson_path.specs.Waiting.{AreChildren, Puts, wait_view, waits_view, waits_at, waits_left, waits_parts, waits_strings, wants}
use Rattle.tinyjson_path.specs.declared.children.Wanted.TheVariants.{Containers}
use Rattle.tinyjson_path_query.specs.declared.query.Origin.TheVariants.{Root}
use Rattle.tinyjson_path.proofs.select.Finder.+selecting.Goals as goal
use Rattle.tinyjson_path.proofs.select.Finder.+selecting.Goals.{next_found-in-Child+in_ok-push_selected-in-Child}
use Rattle.tinyjson_path.proofs.select.Finder.+selecting.Goals.{next_found-in-Descendant+in_ok-push_containers-in-Descendant+in_ok-push_selected-in-Descendant}

pub select_each-returns-in_err-select-clause-err : goal.select_each-returns-in_err-select-clause-err
select_each-returns-in_err-select-clause-err t c =
    let ss = c.args.selectors.now in
    let s = c.selector-item.result in
    let here = strings_in (tree_of c.args.node.now.value) in
    error_of (selectors_strings ss) (selector_strings s) here here (tree_of c.args.self.now.root) c.in_err-select.field-0.0
    c.from_residual.result c.from_residual.ensures.1
    (is_one selector_strings ss ss c.loop-selector.selector-index s (selectors_strings ss) here (tree_of c.args.self.now.root) refl refl
    c.loop-selector-test.true c.selector-item.is)
    (within_self here) (error_at _ _ _ c.loop-selector.invariant.root c.in_err-select.ensures.err)

pub select-returns-in_err-push_kept-in-Filter-clause-err : goal.select-returns-in_err-push_kept-in-Filter-clause-err
select-returns-in_err-push_kept-in-Filter-clause-err t c =
    let x = c.in-Filter.expression in
    let here = strings_in (tree_of c.args.node.now.value) in
    error_of (selector_strings c.args.selector.now) (expression_strings x) here here (tree_of c.args.self.now.root)
    c.in_err-push_kept-in-Filter.field-0.0 c.from_residual-in_err-push_kept-in-Filter.result
    c.from_residual-in_err-push_kept-in-Filter.ensures.1
    (is_whole (selector_strings c.args.selector.now) (expression_strings x) here (tree_of c.args.self.now.root)
    (filter_strings_are c.args.selector.now x c.in-Filter.is))
    (within_self here) c.in_err-push_kept-in-Filter.ensures.err

pub push_kept-returns-in_err-holds-clause-err : goal.push_kept-returns-in_err-holds-clause-err
push_kept-returns-in_err-holds-clause-err t c =
    let n = c.child-item.result in
    let node = c.args.node.now in
    let here = strings_in (tree_of node.value) in
    let q = expression_strings c.args.expression.now in
    error_of q q here (strings_in (tree_of n.value)) (tree_of c.args.self.now.root) c.in_err-holds.field-0.0
    c.from_residual-in_err-holds.result c.from_residual-in_err-holds.ensures.1 (of_query q here (tree_of c.args.self.now.root))
    (node_within c.as_slice-child-items.result.now c.in_ok-children.children.items (children (path_of node) (tree_of node.value))
    c.loop-child.child-index n here c.as_slice-child-items.ensures.value c.in_ok-children.ensures
    (are_children (path_of node) (tree_of node.value)) c.loop-child-test.true c.child-item.is)
    (error_at _ _ _ c.loop-child.invariant.root c.in_err-holds.ensures.err)

pub holds_at-returns-in_err-holds-in-Or-clause-err : goal.holds_at-returns-in_err-holds-in-Or-clause-err
holds_at-returns-in_err-holds-in-Or-clause-err t c =
    let x = c.choice-item.result in
    let xs = c.in-Or.expressions in
    let here = strings_in (tree_of c.args.here.now) in
    let q = expression_strings c.args.expression.now in
    error_of q (expression_strings x) here here (tree_of c.args.self.now.root) c.in_err-holds-in-Or.field-0.0
    c.from_residual.result c.from_residual.ensures.1
    (is_one expression_strings c.deref-choice-items.result.now xs.items c.loop-choice.choice-index x q here (tree_of c.args.self.now.root)
    (or_strings c.args.expression.now xs c.in-Or.is) c.deref-choice-items.ensures.value c.loop-choice-test.true c.choice-item.is)
    (within_self here) (error_at _ _ _ c.loop-choice.invariant.root c.in_err-holds-in-Or.ensures.err)

pub holds_at-returns-in_err-holds-in-And-clause-err : goal.holds_at-returns-in_err-holds-in-And-clause-err
holds_at-returns-in_err-holds-in-And-clause-err t c =
    let x = c.condition-item.result in
    let xs = c.in-And.expressions in
    let here = strings_in (tree_of c.args.here.now) in
    let q = expression_strings c.args.expression.now in
    error_of q (expression_strings x) here here (tree_of c.args.self.now.root) c.in_err-holds-in-And.field-0.0
    c.from_residual-in_err-holds-in-And.result c.from_residual-in_err-holds-in-And.ensures.1
    (is_one expression_strings c.deref-condition-items.result.now xs.items c.loop-condition.condition-index x q here
    (tree_of c.args.self.now.root) (and_strings c.args.expression.now xs c.in-And.is) c.deref-condition-items.ensures.value
    c.loop-condition-test.true c.condition-item.is)
    (within_self here) (error_at _ _ _ c.loop-condition.invariant.root c.in_err-holds-in-And.ensures.err)

pub holds_at-returns-in_err-holds-in-Not-clause-err : goal.holds_at-returns-in_err-holds-in-Not-clause-err
holds_at-returns-in_err-holds-in-Not-clause-err t c =
    let x = c.deref.result.now in
    let root = tree_of c.args.self.now.root in
    let here = strings_in (tree_of c.args.here.now) in
    let q = expression_strings c.args.expression.now in
    error_of q (expression_strings x) here here root c.in_err-holds-in-Not.field-0.0
    c.from_residual-in_err-holds-in-Not.result c.from_residual-in_err-holds-in-Not.ensures.1
    (is_whole q (expression_strings x) here root
    (not_strings c.args.expression.now c.in-Not.expression c.in-Not.is ∙ ap expression_strings (sym c.deref.ensures)))
    (within_self here) c.in_err-holds-in-Not.ensures.err

pub holds_at-returns-in_err-left-in-Comparison-clause-err : goal.holds_at-returns-in_err-left-in-Comparison-clause-err
holds_at-returns-in_err-left-in-Comparison-clause-err t c =
    let l = comparable_strings c.deref-in-Comparison.result.now in
    let r = comparable_strings (box_value c.in-Comparison.right) in
    let here = strings_in (tree_of c.args.here.now) in
    let q = expression_strings c.args.expression.now in
    error_of q l here here (tree_of c.args.self.now.root) c.in_err-left-in-Comparison.field-0.0
    c.from_residual-in_err-left-in-Comparison.result c.from_residual-in_err-left-in-Comparison.ensures.1
    (is_left q l r here (tree_of c.args.self.now.root)
    (comparison_strings c.args.expression.now c.in-Comparison.operator c.in-Comparison.left c.in-Comparison.right c.in-Comparison.is
    ∙ ap (λ x. comparable_strings x ++ r) (sym c.deref-in-Comparison.ensures)))
    (within_self here) c.in_err-left-in-Comparison.ensures.err

pub holds_at-returns-in_ok-left-in-Comparison-clause-err : goal.holds_at-returns-in_ok-left-in-Comparison-clause-err
holds_at-returns-in_ok-left-in-Comparison-clause-err t c =
    let l = comparable_strings (box_value c.in-Comparison.left) in
    let r = comparable_strings c.deref-in-Comparison-2.result.now in
    let root = tree_of c.args.self.now.root in
    let here = strings_in (tree_of c.args.here.now) in
    let q = expression_strings c.args.expression.now in
    part_result q r here root c.compares.result
    (is_right q l r here root
    (comparison_strings c.args.expression.now c.in-Comparison.operator c.in-Comparison.left c.in-Comparison.right c.in-Comparison.is
    ∙ ap (λ x. l ++ comparable_strings x) (sym c.deref-in-Comparison-2.ensures)))
    (subst (λ y. IfErr c.compares.result (IsFromAny r (tree_of y) here)) c.compared.ensures.root c.compares.ensures.err)

pub holds_at-returns-in_err-value-in-Pattern-clause-err : goal.holds_at-returns-in_err-value-in-Pattern-clause-err
holds_at-returns-in_err-value-in-Pattern-clause-err t c =
    let l = comparable_strings c.deref-in-Pattern.result.now in
    let r = comparable_strings (box_value c.in-Pattern.pattern) in
    let here = strings_in (tree_of c.args.here.now) in
    let q = expression_strings c.args.expression.now in
    error_of q l here here (tree_of c.args.self.now.root) c.in_err-value-in-Pattern.field-0.0
    c.from_residual-in_err-value-in-Pattern.result c.from_residual-in_err-value-in-Pattern.ensures.1
    (is_left q l r here (tree_of c.args.self.now.root)
    (pattern_strings c.args.expression.now c.in-Pattern.function c.in-Pattern.value c.in-Pattern.pattern c.in-Pattern.is
    ∙ ap (λ x. comparable_strings x ++ r) (sym c.deref-in-Pattern.ensures)))
    (within_self here) c.in_err-value-in-Pattern.ensures.err

pub holds_at-returns-in_ok-value-in-Pattern-clause-err : goal.holds_at-returns-in_ok-value-in-Pattern-clause-err
holds_at-returns-in_ok-value-in-Pattern-clause-err t c =
    let l = comparable_strings (box_value c.in-Pattern.value) in
    let r = comparable_strings c.deref-in-Pattern-2.result.now in
    let root = tree_of c.args.self.now.root in
    let here = strings_in (tree_of c.args.here.now) in
    let q = expression_strings c.args.expression.now in
    part_result q r here root c.matches.result
    (is_right q l r here root
    (pattern_strings c.args.expression.now c.in-Pattern.function c.in-Pattern.value c.in-Pattern.pattern c.in-Pattern.is
    ∙ ap (λ x. l ++ comparable_strings x) (sym c.deref-in-Pattern-2.ensures)))
    (subst (λ y. IfErr c.matches.result (IsFromAny r (tree_of y) here)) c.compared-in-Pattern.ensures.root c.matches.ensures.err)

pub holds_at-returns-in-Test-clause-err : goal.holds_at-returns-in-Test-clause-err
holds_at-returns-in-Test-clause-err t c =
    same_result (expression_strings c.args.expression.now) (filter_strings c.in-Test.query) (strings_in (tree_of c.args.here.now))
    (tree_of c.args.self.now.root) c.is_found.result (test_strings c.args.expression.now c.in-Test.query c.in-Test.is)
    c.is_found.ensures.err

pub compared-returns-in-Length-clause-err : goal.compared-returns-in-Length-clause-err
compared-returns-in-Length-clause-err t c =
    same_result (comparable_strings c.args.comparable.now) (comparable_strings c.deref.result.now)
    (strings_in (tree_of c.args.here.now)) (tree_of c.args.self.now.root) c.length.result
    (length_strings c.args.comparable.now c.in-Function.function c.in-Length.argument c.in-Function.is c.in-Length.is
    ∙ ap comparable_strings (sym c.deref.ensures))
    c.length.ensures.err

pub compared-returns-in-Count-clause-err : goal.compared-returns-in-Count-clause-err
compared-returns-in-Count-clause-err t c =
    same_result (comparable_strings c.args.comparable.now) (filter_strings c.in-Count.query) (strings_in (tree_of c.args.here.now))
    (tree_of c.args.self.now.root) c.count.result
    (count_strings c.args.comparable.now c.in-Function.function c.in-Count.query c.in-Function.is c.in-Count.is)
    c.count.ensures.err

pub compared-returns-in-Value-clause-err : goal.compared-returns-in-Value-clause-err
compared-returns-in-Value-clause-err t c =
    same_result (comparable_strings c.args.comparable.now) (filter_strings c.in-Value.query) (strings_in (tree_of c.args.here.now))
    (tree_of c.args.self.now.root) c.only_value.result
    (value_strings c.args.comparable.now c.in-Function.function c.in-Value.query c.in-Function.is c.in-Value.is)
    c.only_value.ensures.err

pub matches-returns-in_err-test-in-Ok-clause-err : goal.matches-returns-in_err-test-in-Ok-clause-err
matches-returns-in_err-test-in-Ok-clause-err t c =
    let p = c.args.pattern.now in
    let root = tree_of c.args.self.now.root in
    let here = tree_of c.args.here.now in
    let q = comparable_strings p in
    error_of_pattern q root here p (option_map operand_tree c.in-Ok.pattern) c.in_err-test-in-Ok.field-0.0
    c.from_residual.result c.from_residual.ensures.1 (is_whole q q (strings_in here) root refl) c.in-Ok.ensures.ok
    c.in_err-test-in-Ok.ensures.err

pub length-returns-in_err-compared-clause-err : goal.length-returns-in_err-compared-clause-err
length-returns-in_err-compared-clause-err t c =
    from_same
    (comparable_strings c.args.argument.now ++ (strings_in (tree_of c.args.self.now.root) ++ strings_in (tree_of c.args.here.now)))
    c.in_err-compared.field-0.0 c.from_residual.result c.from_residual.ensures.1 c.in_err-compared.ensures.err

pub count-returns-in_err-found-clause-err : goal.count-returns-in_err-found-clause-err
count-returns-in_err-found-clause-err t c =
    from_same (filter_strings c.args.query.now ++ (strings_in (tree_of c.args.self.now.root) ++ strings_in (tree_of c.args.here.now)))
    c.in_err-found.field-0.0 c.from_residual.result c.from_residual.ensures.1 c.in_err-found.ensures.err

pub only_value-returns-in_err-found-clause-err : goal.only_value-returns-in_err-found-clause-err
only_value-returns-in_err-found-clause-err t c =
    from_same (filter_strings c.args.query.now ++ (strings_in (tree_of c.args.self.now.root) ++ strings_in (tree_of c.args.here.now)))
    c.in_err-found.field-0.0 c.from_residual.result c.from_residual.ensures.1 c.in_err-found.ensures.err

pub is_found-returns-in-Root-clause-err : goal.is_found-returns-in-Root-clause-err
is_found-returns-in-Root-clause-err t c =
    let q = c.args.query.now in
    let root = tree_of c.args.self.now.root in
    let here = tree_of c.args.here.now in
    error_from (filter_strings q) (segments_strings c.as_slice.result.now) q.origin root here root c.is_any_once.result
    (segments_of_query q ∙ ap segments_strings (sym c.as_slice.ensures.value)) (sym (ap (λ o. origin_tree o root here) c.in-Root.is))
    c.is_any_once.ensures.err

pub is_found-returns-in-CurrentNode-clause-err : goal.is_found-returns-in-CurrentNode-clause-err
is_found-returns-in-CurrentNode-clause-err t c =
    let q = c.args.query.now in
    let root = tree_of c.args.self.now.root in
    let here = tree_of c.args.here.now in
    error_from (filter_strings q) (segments_strings c.as_slice-in-CurrentNode.result.now) q.origin root here here c.is_any_from.result
    (segments_of_query q ∙ ap segments_strings (sym c.as_slice-in-CurrentNode.ensures.value))
    (sym (ap (λ o. origin_tree o root here) c.in-CurrentNode.is)) c.is_any_from.ensures.err

pub is_found-returns-in-Root-clause-ok : goal.is_found-returns-in-Root-clause-ok
is_found-returns-in-Root-clause-ok t c =
    let q = c.args.query.now in
    let root = tree_of c.args.self.now.root in
    let here = tree_of c.args.here.now in
    some_answered q root here root c.is_any_once.result (sym (ap (λ o. origin_tree o root here) c.in-Root.is))
    (subst (λ ss. IfOk c.is_any_once.result (λ b. b ≡ is_some_part (found_by ss root root))) c.as_slice.ensures.value
    c.is_any_once.ensures.ok)

pub is_found-returns-in-CurrentNode-clause-ok : goal.is_found-returns-in-CurrentNode-clause-ok
is_found-returns-in-CurrentNode-clause-ok t c =
    let q = c.args.query.now in
    let root = tree_of c.args.self.now.root in
    let here = tree_of c.args.here.now in
    some_answered q root here here c.is_any_from.result (sym (ap (λ o. origin_tree o root here) c.in-CurrentNode.is))
    (subst (λ ss. IfOk c.is_any_from.result (λ b. b ≡ is_some_part (found_by ss root here)))
    c.as_slice-in-CurrentNode.ensures.value c.is_any_from.ensures.ok)

pub found-returns-in-Root-clause-err : goal.found-returns-in-Root-clause-err
found-returns-in-Root-clause-err t c =
    let q = c.args.query.now in
    let root = tree_of c.args.self.now.root in
    let here = tree_of c.args.here.now in
    error_from (filter_strings q) (segments_strings c.as_slice.result.now) q.origin root here root c.found_once.result
    (segments_of_query q ∙ ap segments_strings (sym c.as_slice.ensures.value)) (sym (ap (λ o. origin_tree o root here) c.in-Root.is))
    c.found_once.ensures.err

pub found-returns-in-CurrentNode-clause-err : goal.found-returns-in-CurrentNode-clause-err
found-returns-in-CurrentNode-clause-err t c =
    let q = c.args.query.now in
    let root = tree_of c.args.self.now.root in
    let here = tree_of c.args.here.now in
    error_from (filter_strings q) (segments_strings c.as_slice-in-CurrentNode.result.now) q.origin root here here c.found_from.result
    (segments_of_query q ∙ ap segments_strings (sym c.as_slice-in-CurrentNode.ensures.value))
    (sym (ap (λ o. origin_tree o root here) c.in-CurrentNode.is)) c.found_from.ensures.err

pub found-returns-in-Root-clause-ok : goal.found-returns-in-Root-clause-ok
found-returns-in-Root-clause-ok t c =
    let q = c.args.query.now in
    let root = tree_of c.args.self.now.root in
    let here = tree_of c.args.here.now in
    answered q root here root c.found_once.result (sym (ap (λ o. origin_tree o root here) c.in-Root.is))
    (subst (λ ss. IfOk c.found_once.result (λ f. found_view f ≡ answer_of (found_by ss root root))) c.as_slice.ensures.value
    c.found_once.ensures.ok)

pub found-returns-in-CurrentNode-clause-ok : goal.found-returns-in-CurrentNode-clause-ok
found-returns-in-CurrentNode-clause-ok t c =
    let q = c.args.query.now in
    let root = tree_of c.args.self.now.root in
    let here = tree_of c.args.here.now in
    answered q root here here c.found_from.result (sym (ap (λ o. origin_tree o root here) c.in-CurrentNode.is))
    (subst (λ ss. IfOk c.found_from.result (λ f. found_view f ≡ answer_of (found_by ss root here)))
    c.as_slice-in-CurrentNode.ensures.value c.found_from.ensures.ok)

pub push_selected-returns-clause-marked : goal.push_selected-returns-clause-marked
push_selected-returns-clause-marked t c =
    let n = c.args.node.now in
    let p = part_view n in
    let root = tree_of c.args.self.now.root in
    let chosen = selected_by c.args.selectors.now root p in
    c.in_ok-push_reversed.ensures.marked p
    (subst (AreChildren p) (sym (c.in_ok-select_each.ensures.ok ∙ ap (λ ns. parts_view ns ++ chosen) c.new-selected.ensures.items))
    (chosen_children c.args.selectors.now root p (sorted_in (tree_of n.value) (value_sound n.value))))

pub next_found-loop-node-init : goal.next_found-loop-node-init
next_found-loop-node-init t c =
    let ws = waits_view c.args.waiting.now.items in record {
      root = refl;
      left = refl;
      within = are_from (waits_strings ws) (waits_parts ws) (within_self (waits_strings ws));
      sound = sound_none c.args.segments.now (tree_of c.args.self.now.root) c.len-low.result c.args.waiting.now.items (search rules);
    }

pub next_found-loop-node-smaller : goal.next_found-loop-node-smaller
next_found-loop-node-smaller t c =
    let ss = c.args.segments.now in
    let root = tree_of c.args.self.now.root in
    let zs = waits_strings (waits_view c.args.waiting.now.items) in
    let i = c.in-Some.field-0.segment in
    let n = c.in-Some.field-0.node in
    let ws = waits_view c.loop-node.waiting.items in
    let mid = waits_view c.pop.new.self.items in
    let popped = waits_popped c.loop-node.waiting.items c.pop.new.self.items c.in-Some.field-0 c.in-Some.ensures.items in
    let s = c.index-segments-segment.result in
    let l = c.if-segment-segments.false in
    let at = c.index-segments-segment.is in
    let new = waits_view c.match-segments-segment.waiting.items in
    elim c.match-segments-segment.branch [
      | next_found-in-Child+in_ok-push_selected-in-Child w ↦
          let sels = w.in-Child.selectors in
          let chosen = selected_by sels.items root (part_view n) in
          let pushed : new ≡ mid ++ reverse (waits_at (i + 1) chosen) = ap (λ v. waits_view v.items) w.waiting-is
          ∙ (w.in_ok-push_selected-in-Child.ensures.ok
          ∙ ap (λ z. mid ++ reverse (waits_at (i + 1) z))
          (ap (λ r. selected_by w.as_slice.result.now (tree_of r) (part_view n)) c.loop-node.invariant.root
          ∙ ap (λ xs. selected_by xs root (part_view n)) w.as_slice.ensures.value)) in
          less_child ss root i s l at sels (part_view n) ws mid new w.in-Child.is popped pushed
      | next_found-in-Descendant+in_ok-push_containers-in-Descendant+in_ok-push_selected-in-Descendant w ↦
          let sels = w.in-Descendant.selectors in
          let chosen = selected_by sels.items root (part_view n) in
          let below = children (path_of n) (tree_of n.value) in
          let inner = kept (wants Containers) below in
          let low = waits_view w.push_containers.new.waiting.items in
          let lower : low ≡ mid ++ reverse (waits_at i inner) = w.in_ok-push_containers-in-Descendant.ensures.view in
          let pushed : new ≡ low ++ reverse (waits_at (i + 1) chosen) = ap (λ v. waits_view v.items) w.waiting-is
          ∙ (w.in_ok-push_selected-in-Descendant.ensures.ok
          ∙ ap (λ z. low ++ reverse (waits_at (i + 1) z))
          (ap (λ r. selected_by w.as_slice-in-Descendant.result.now (tree_of r) (part_view n)) c.loop-node.invariant.root
          ∙ ap (λ xs. selected_by xs root (part_view n)) w.as_slice-in-Descendant.ensures.value)) in
          less_descendant ss root i s l at sels (part_view n) ws mid low new w.in-Descendant.is popped lower pushed
    ]

-- one that repeats is left out
pub next_found-loop-node-smaller-then-len-low : goal.next_found-loop-node-smaller-then-len-low
next_found-loop-node-smaller-then-len-low t c =
    let w = c.in-Some.field-0 in
    less_popped c.args.segments.now (tree_of c.args.self.now.root) (waits_view c.loop-node.waiting.items) (waits_view c.pop.new.self.items)
    (wait_view w) (waits_popped c.loop-node.waiting.items c.pop.new.self.items w c.in-Some.ensures.items)

pub next_found-loop-node-preserved-then-len-low : goal.next_found-loop-node-preserved-then-len-low
next_found-loop-node-preserved-then-len-low t c =
    let ss = c.args.segments.now in
    let root = tree_of c.args.self.now.root in
    let zs = waits_strings (waits_view c.args.waiting.now.items) in
    let waited = c.loop-node.waiting.items in
    let rest = c.pop.new.self.items in
    let w = c.in-Some.field-0 in
    let e = c.in-Some.ensures.items in
    let count : c.len.result ≡ length rest = search rules in
    let l : c.loop-node.low ≤ length rest = omega (arith, count, c.if-len-low.true) in record {
      root = c.loop-node.invariant.root;
      left = left_skip ss root waited rest w c.loop-node.low e l c.if-repeats.true c.loop-node.invariant.sound ∙ c.loop-node.invariant.left;
      within = (are_popped zs (waits_view waited) (waits_view rest) (wait_view w) (waits_popped waited rest w e)
          c.loop-node.invariant.within).0;
      sound = sound_skip ss root waited rest w c.loop-node.low e l c.if-repeats.true c.loop-node.invariant.sound;
    }

pub next_found-loop-node-preserved : goal.next_found-loop-node-preserved
next_found-loop-node-preserved t c =
    let ss = c.args.segments.now in
    let root = tree_of c.args.self.now.root in
    let zs = waits_strings (waits_view c.args.waiting.now.items) in
    let i = c.in-Some.field-0.segment in
    let n = c.in-Some.field-0.node in
    let ws = waits_view c.loop-node.waiting.items in
    let mid = waits_view c.pop.new.self.items in
    let popped = waits_popped c.loop-node.waiting.items c.pop.new.self.items c.in-Some.field-0 c.in-Some.ensures.items in
    let s = c.index-segments-segment.result in
    let l = c.if-segment-segments.false in
    let at = c.index-segments-segment.is in
    let waited = c.loop-node.waiting.items in
    let rest = c.pop.new.self.items in
    let count : c.len-in-Some.result ≡ length rest = search rules in
    let lowest : c.min-low.result ≡ min c.loop-node.low (length rest) = c.min-low.ensures ∙ ap (min c.loop-node.low) count in
    let newer = c.match-segments-segment.waiting.items in
    let new = waits_view newer in
    let here = are_popped zs ws mid (i, part_view n) popped c.loop-node.invariant.within in
    elim c.match-segments-segment.branch [
      | next_found-in-Child+in_ok-push_selected-in-Child w ↦
          let sels = w.in-Child.selectors in
          let chosen = selected_by sels.items root (part_view n) in
          let puts : Puts rest newer = subst (λ v. Puts rest v.items) (sym w.waiting-is) w.in_ok-push_selected-in-Child.ensures.marked in
          let pushed : new ≡ mid ++ reverse (waits_at (i + 1) chosen) = ap (λ v. waits_view v.items) w.waiting-is
          ∙ (w.in_ok-push_selected-in-Child.ensures.ok
          ∙ ap (λ z. mid ++ reverse (waits_at (i + 1) z))
          (ap (λ r. selected_by w.as_slice.result.now (tree_of r) (part_view n)) c.loop-node.invariant.root
          ∙ ap (λ xs. selected_by xs root (part_view n)) w.as_slice.ensures.value)) in
          let same = left_child ss root i s l at sels (part_view n) ws mid new w.in-Child.is popped pushed in
          record {
            root = ap (λ v. v.root) w.self-is ∙ (w.push_selected.ensures.root ∙ c.loop-node.invariant.root);
            left = same ∙ c.loop-node.invariant.left;
            within = are_pushed zs mid new (i + 1) chosen pushed here.0
                (are_in (strings_in (tree_of n.value)) zs chosen here.1 (chosen_within sels root (part_view n)));
            sound = subst (λ n. AreSound ss root (drop n newer)) (sym lowest)
                (sound_next ss root waited rest newer c.in-Some.field-0 c.loop-node.low c.in-Some.ensures.items puts same
                c.loop-node.invariant.sound);
          }
      | next_found-in-Descendant+in_ok-push_containers-in-Descendant+in_ok-push_selected-in-Descendant w ↦
          let sels = w.in-Descendant.selectors in
          let chosen = selected_by sels.items root (part_view n) in
          let below = children (path_of n) (tree_of n.value) in
          let inner = kept (wants Containers) below in
          let low = waits_view w.push_containers.new.waiting.items in
          let puts : Puts rest newer = puts_both rest w.push_containers.new.waiting.items newer
          w.in_ok-push_containers-in-Descendant.ensures.marked
          (subst (λ v. Puts w.push_containers.new.waiting.items v.items) (sym w.waiting-is)
          w.in_ok-push_selected-in-Descendant.ensures.marked) in
          let lower : low ≡ mid ++ reverse (waits_at i inner) = w.in_ok-push_containers-in-Descendant.ensures.view in
          let pushed : new ≡ low ++ reverse (waits_at (i + 1) chosen) = ap (λ v. waits_view v.items) w.waiting-is
          ∙ (w.in_ok-push_selected-in-Descendant.ensures.ok
          ∙ ap (λ z. low ++ reverse (waits_at (i + 1) z))
          (ap (λ r. selected_by w.as_slice-in-Descendant.result.now (tree_of r) (part_view n)) c.loop-node.invariant.root
          ∙ ap (λ xs. selected_by xs root (part_view n)) w.as_slice-in-Descendant.ensures.value)) in
          let same = left_descendant ss root i s l at sels (part_view n) ws mid low new w.in-Descendant.is popped lower pushed in
          record {
            root = ap (λ v. v.root) w.self-is ∙ (w.push_selected-in-Descendant.ensures.root ∙ c.loop-node.invariant.root);
            left = same ∙ c.loop-node.invariant.left;
            within = are_pushed zs low new (i + 1) chosen pushed
                (are_pushed zs mid low i inner lower here.0
                (are_kept zs (wants Containers) below
                (are_in (strings_in (tree_of n.value)) zs below here.1 (are_children (path_of n) (tree_of n.value)))))
                (are_in (strings_in (tree_of n.value)) zs chosen here.1 (chosen_within sels root (part_view n)));
            sound = subst (λ n. AreSound ss root (drop n newer)) (sym lowest)
                (sound_next ss root waited rest newer c.in-Some.field-0 c.loop-node.low c.in-Some.ensures.items puts same
                c.loop-node.invariant.sound);
          }
    ]

pub next_found-returns-then-segment-segments-clause-next : goal.next_found-returns-then-segment-segments-clause-next
next_found-returns-then-segment-segments-clause-next t c =
    let ss = c.args.segments.now in
    let root = tree_of c.args.self.now.root in
    let i = c.in-Some.field-0.segment in
    let n = c.in-Some.field-0.node in
    let ws = waits_view c.loop-node.waiting.items in
    let mid = waits_view c.pop.new.self.items in
    let popped = waits_popped c.loop-node.waiting.items c.pop.new.self.items c.in-Some.field-0 c.in-Some.ensures.items in
    sym c.loop-node.invariant.left ∙ left_whole ss root ws mid i (part_view n) popped (drop_past ss i c.if-segment-segments.true)

pub next_found-returns-then-segment-segments-clause-within : goal.next_found-returns-then-segment-segments-clause-within
next_found-returns-then-segment-segments-clause-within t c =
    let zs = waits_strings (waits_view c.args.waiting.now.items) in
    let i = c.in-Some.field-0.segment in
    let n = c.in-Some.field-0.node in
    let ws = waits_view c.loop-node.waiting.items in
    let mid = waits_view c.pop.new.self.items in
    let popped = waits_popped c.loop-node.waiting.items c.pop.new.self.items c.in-Some.field-0 c.in-Some.ensures.items in
    are_within zs (waits_parts mid) (are_popped zs ws mid (i, part_view n) popped c.loop-node.invariant.within).0

pub next_found-returns-in_err-push_selected-in-Child-clause-err : goal.next_found-returns-in_err-push_selected-in-Child-clause-err
next_found-returns-in_err-push_selected-in-Child-clause-err t c =
    let ss = c.args.segments.now in
    let root = tree_of c.args.self.now.root in
    let zs = waits_strings (waits_view c.args.waiting.now.items) in
    let i = c.in-Some.field-0.segment in
    let n = c.in-Some.field-0.node in
    let ws = waits_view c.loop-node.waiting.items in
    let mid = waits_view c.pop.new.self.items in
    let popped = waits_popped c.loop-node.waiting.items c.pop.new.self.items c.in-Some.field-0 c.in-Some.ensures.items in
    let s = c.index-segments-segment.result in
    let sels = c.in-Child.selectors in
    error_of (segments_strings ss) (selectors_strings c.as_slice.result.now) zs (strings_in (tree_of n.value)) root
    c.in_err-push_selected-in-Child.field-0.0 c.from_residual.result
    c.from_residual.ensures.1
    (subst (λ ts. Within ts (segments_strings ss ++ (strings_in root ++ zs)))
    (child_strings s sels c.in-Child.is ∙ ap selectors_strings (sym c.as_slice.ensures.value))
    (is_one segment_strings ss ss i s (segments_strings ss) zs root refl refl c.if-segment-segments.false c.index-segments-segment.is))
    (are_popped zs ws mid (i, part_view n) popped c.loop-node.invariant.within).1
    (error_at _ _ _ c.loop-node.invariant.root c.in_err-push_selected-in-Child.ensures.err)

pub next_found-returns-in_err-push_selected-in-Descendant-clause-err : goal.next_found-returns-in_err-push_selected-in-Descendant-clause-err
next_found-returns-in_err-push_selected-in-Descendant-clause-err t c =
    let ss = c.args.segments.now in
    let root = tree_of c.args.self.now.root in
    let zs = waits_strings (waits_view c.args.waiting.now.items) in
    let i = c.in-Some.field-0.segment in
    let n = c.in-Some.field-0.node in
    let ws = waits_view c.loop-node.waiting.items in
    let mid = waits_view c.pop.new.self.items in
    let popped = waits_popped c.loop-node.waiting.items c.pop.new.self.items c.in-Some.field-0 c.in-Some.ensures.items in
    let s = c.index-segments-segment.result in
    let sels = c.in-Descendant.selectors in
    error_of (segments_strings ss) (selectors_strings c.as_slice-in-Descendant.result.now) zs (strings_in (tree_of n.value)) root
    c.in_err-push_selected-in-Descendant.field-0.0 c.from_residual-in_err-push_selected-in-Descendant.result
    c.from_residual-in_err-push_selected-in-Descendant.ensures.1
    (subst (λ ts. Within ts (segments_strings ss ++ (strings_in root ++ zs)))
    (descendant_strings s sels c.in-Descendant.is ∙ ap selectors_strings (sym c.as_slice-in-Descendant.ensures.value))
    (is_one segment_strings ss ss i s (segments_strings ss) zs root refl refl c.if-segment-segments.false c.index-segments-segment.is))
    (are_popped zs ws mid (i, part_view n) popped c.loop-node.invariant.within).1
    (error_at _ _ _ c.loop-node.invariant.root c.in_err-push_selected-in-Descendant.ensures.err)

pub found_from-loop-waiting-smaller : goal.found_from-loop-waiting-smaller
found_from-loop-waiting-smaller t c =
    let ss = c.args.segments.now in
    let root = tree_of c.args.self.now.root in
    let n = c.in-Some.node in
    let ws = waits_view c.loop-waiting.waiting.items in
    let vs = waits_view c.next_found.new.waiting.items in
    one_less (waits_left ss root ws) (waits_left ss root vs) (part_view n)
    (next_at ss ws vs (Some n) c.loop-waiting.invariant.root
    (subst (λ o. Takes (waits_left ss (tree_of c.loop-waiting.self.root) ws)
    (waits_left ss (tree_of c.loop-waiting.self.root) vs) o) c.in-Some.is c.in_ok-node.ensures.next))

pub found_from-loop-waiting-preserved : goal.found_from-loop-waiting-preserved
found_from-loop-waiting-preserved t c =
    let ss = c.args.segments.now in
    let root = tree_of c.args.self.now.root in
    let n = c.in-Some.node in
    let ps = c.loop-waiting.invariant.left.0 in
    let ws = waits_view c.loop-waiting.waiting.items in
    let vs = waits_view c.next_found.new.waiting.items in
    record {
      root = c.next_found.ensures.root ∙ c.loop-waiting.invariant.root;
      left = (
        ps ++ part_view n ∷ [],
        c.in_ok-found.ensures ps (part_view n) c.loop-waiting.invariant.left.1 refl,
        one_more ps (waits_left ss root ws) (waits_left ss root vs) (found_by ss root (tree_of c.args.value)) (part_view n)
            (next_at ss ws vs (Some n) c.loop-waiting.invariant.root
            (subst (λ o. Takes (waits_left ss (tree_of c.loop-waiting.self.root) ws)
            (waits_left ss (tree_of c.loop-waiting.self.root) vs) o)
            c.in-Some.is c.in_ok-node.ensures.next))
            c.loop-waiting.invariant.left.2,
      );
      within = within_trans (waits_strings vs) (waits_strings ws) (strings_in (tree_of c.args.value)) c.in_ok-node.ensures.within
          c.loop-waiting.invariant.within;
    }

pub found_from-returns-in_err-node-clause-err : goal.found_from-returns-in_err-node-clause-err
found_from-returns-in_err-node-clause-err t c =
    let q = segments_strings c.args.segments.now in
    let root = tree_of c.args.self.now.root in
    let here = strings_in (tree_of c.args.value) in
    error_of q q here (waits_strings (waits_view c.loop-waiting.waiting.items)) root c.in_err-node.field-0.0
    c.from_residual-in_err-node.result c.from_residual-in_err-node.ensures.1 (of_query q here root)
    c.loop-waiting.invariant.within (error_at _ _ _ c.loop-waiting.invariant.root c.in_err-node.ensures.err)

pub is_any_from-returns-in_err-next-clause-err : goal.is_any_from-returns-in_err-next-clause-err
is_any_from-returns-in_err-next-clause-err t c =
    let q = segments_strings c.args.segments.now in
    let root = tree_of c.args.self.now.root in
    let here = strings_in (tree_of c.args.value) in
    let ws = waits_view c.in_ok-waiting.waiting.items in
    error_of q q here (waits_strings ws) root c.in_err-next.field-0.0 c.from_residual-in_err-next.result
    c.from_residual-in_err-next.ensures.1 (of_query q here root)
    (within_same (waits_strings ws) here (first_strings ws (tree_of c.args.value) c.in_ok-waiting.ensures)) c.in_err-next.ensures.err

pub holds-returns-then-is_test_steady-clause-ok : goal.holds-returns-then-is_test_steady-clause-ok
holds-returns-then-is_test_steady-clause-ok t c =
    let root = tree_of c.args.self.now.root in
    let here = tree_of c.args.here.now in
    subst (λ x. IfOk c.holds_once.result (λ b. b ≡ x)) (sym (c.is_test_steady.ensures c.if-is_test_steady.true root here))
    c.holds_once.ensures.ok

pub holds-returns-then-is_test_steady-clause-err : goal.holds-returns-then-is_test_steady-clause-err
holds-returns-then-is_test_steady-clause-err t c =
    let root = tree_of c.args.self.now.root in
    let q = expression_strings c.args.expression.now in
    error_from q q Root root (tree_of c.args.here.now) root c.holds_once.result refl refl c.holds_once.ensures.err

pub length-returns-then-is_steady-clause-ok : goal.length-returns-then-is_steady-clause-ok
length-returns-then-is_steady-clause-ok t c =
    let root = tree_of c.args.self.now.root in
    let here = tree_of c.args.here.now in
    subst (λ x. IfOk c.length_once.result (λ o. option_map operand_tree o ≡ length_of x))
    (sym (c.is_steady.ensures c.if-is_steady.true root here)) c.length_once.ensures.ok

pub length-returns-then-is_steady-clause-err : goal.length-returns-then-is_steady-clause-err
length-returns-then-is_steady-clause-err t c =
    let root = tree_of c.args.self.now.root in
    let q = comparable_strings c.args.argument.now in
    error_from q q Root root (tree_of c.args.here.now) root c.length_once.result refl refl c.length_once.ensures.err
