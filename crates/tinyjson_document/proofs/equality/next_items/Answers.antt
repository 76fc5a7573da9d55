use Rattle.std.proofs.Common.{◌≡◌, ◌∙◌, ap, sym, arith, rules, option_map, is_none}
use Rattle.tinyjson_document.specs.Comparing.{items_weight, rest_eq}
use Rattle.tinyjson_document.specs.Document.{tree}
use Rattle.tinyjson_document.proofs.Comparing.{item_missing, item_there, items_end, past_size, turn_same, turn_differs, turn_inside}
use Rattle.tinyjson_document.proofs.equality.next_items.Goals as goal

pub returns-then-index-count-clause-same : goal.returns-then-index-count-clause-same
returns-then-index-count-clause-same g c =
    let u = g.V.Other.tree c.args.other in
    sym (item_missing (tree c.in-Some.item) u c.loop-item.index _ _ c.in-Some.ensures.steps
    (past_size u _ (omega (arith, c.if-index-count.true, c.len-count.ensures)))) ∙ c.loop-item.invariant.0

pub returns-in_default-item-clause-same : goal.returns-in_default-item-clause-same
returns-in_default-item-clause-same g c =
    let u = g.V.Other.tree c.args.other in
    sym (item_missing (tree c.in-Some.item) u c.loop-item.index _ _ c.in-Some.ensures.steps
    (sym c.item.ensures ∙ ap (option_map g.V.Other.tree) c.in_default-item.is)) ∙ c.loop-item.invariant.0

pub loop-item-preserved : goal.loop-item-preserved
loop-item-preserved g c =
    let u = g.V.Other.tree c.args.other in
    let there = sym c.item.ensures ∙ ap (option_map g.V.Other.tree) c.in-Some-item.is in
    let split = item_there (tree c.in-Some.item) u c.loop-item.index _ _ c.in-Some.ensures.steps
    (g.V.Other.tree c.in-Some-item.part) there in (
      turn_same _ _ _ _ split c.loop-item.invariant.0 (sym c.in-Known-true.ensures.same ∙ c.in-Known-true.field-0-test),
      omega (arith, c.loop-item.invariant.1, ap items_weight c.in-Some.ensures.steps),
    )

pub returns-in-Known-false-clause-same : goal.returns-in-Known-false-clause-same
returns-in-Known-false-clause-same g c =
    let u = g.V.Other.tree c.args.other in
    let there = sym c.item.ensures ∙ ap (option_map g.V.Other.tree) c.in-Some-item.is in
    let split = item_there (tree c.in-Some.item) u c.loop-item.index _ _ c.in-Some.ensures.steps
    (g.V.Other.tree c.in-Some-item.part) there in
    turn_differs _ _ _ _ split c.loop-item.invariant.0 (sym c.in-Known-false.ensures.same ∙ c.in-Known-false.field-0-test)

pub returns-in-Inside-clause-same : goal.returns-in-Inside-clause-same
returns-in-Inside-clause-same g c =
    let u = g.V.Other.tree c.args.other in
    let there = sym c.item.ensures ∙ ap (option_map g.V.Other.tree) c.in-Some-item.is in
    let split = item_there (tree c.in-Some.item) u c.loop-item.index _ _ c.in-Some.ensures.steps
    (g.V.Other.tree c.in-Some-item.part) there in
    turn_inside _ _ _ _ split c.loop-item.invariant.0 (rest_eq g.V.Other.tree c.in-Inside.inner) c.in-Inside.ensures.same

pub returns-clause-same : goal.returns-clause-same
returns-clause-same g c =
    let is : c.is_none.result ≡ is_none c.item-2.result = search rules in
    is ∙ items_end g.V.Other.tree (g.V.Other.tree c.args.other) c.loop-item.index c.item-2.result _
    c.in_default.ensures.steps.0 c.item-2.ensures ∙ c.loop-item.invariant.0
