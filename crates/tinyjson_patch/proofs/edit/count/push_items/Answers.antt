use Rattle.std.proofs.Common.{◌≡◌, ◌+◌, suc, [], ap, arith, refl, sym, ◌∙◌}
use Rattle.std.proofs.lemmas.List.{nil_from_length}
use Rattle.std.specs.VecDeque.Iter.{deque_iter_rest}
use Rattle.tinyjson.specs.Index.{item_count}
use Rattle.tinyjson_grammar.specs.Tree.{array}
use Rattle.tinyjson_patch.specs.Copies.{item_values, value_count}
use Rattle.tinyjson_patch.specs.private.Edited.{items_tree, tree}
use Rattle.tinyjson_patch.proofs.Editing.Counting.{all_spread, one_spread, spread_begins}
use Rattle.tinyjson_patch.proofs.edit.count.push_items.Goals as goal

pub loop-item-init : goal.loop-item-init
loop-item-init c =
    spread_begins (array (items_tree c.args.items.now.items)) c.args.stack.now.items _ _
    (ap (λ bs. item_values (items_tree bs)) c.iter-rest.ensures.rest) (ap (λ bs. item_count (items_tree bs)) c.iter-rest.ensures.rest)

pub loop-item-preserved : goal.loop-item-preserved
loop-item-preserved c =
    let l = c.loop-item in
    let bs = deque_iter_rest c.next.new.self in
    let seen = ap tree c.as_ref.ensures in
    let one : item_count (items_tree (deque_iter_rest l.rest)) ≡ suc (item_count (items_tree bs))
    = ap (λ xs. item_count (items_tree xs)) c.in-Some.ensures.steps in
    one_spread (array (items_tree c.args.items.now.items)) c.args.stack.now.items l.stack.items c.put_part.new.stack.items
    c.part_of.result _ _ (item_values (items_tree bs)) (item_count (items_tree bs)) l.invariant
    (ap (λ xs. item_values (items_tree xs)) c.in-Some.ensures.steps
    ∙ ap (λ t. value_count t + item_values (items_tree bs)) (sym (c.part_of.ensures ∙ seen)))
    (omega (arith, one)) c.in_ok-put_part.ensures

pub returns : goal.returns
returns c =
    let l = c.loop-item in
    let none : deque_iter_rest l.rest ≡ [] = nil_from_length (deque_iter_rest l.rest) c.in_default.ensures.steps.0 in
    all_spread (array (items_tree c.args.items.now.items)) c.args.stack.now.items l.stack.items _ _
    (ap (λ bs. item_values (items_tree bs)) none) (ap (λ bs. item_count (items_tree bs)) none) l.invariant
