use Rattle.std.proofs.Common.{◌≡◌, ◌++◌, map, ◌∙◌, sym, ap, ap₂, arith}
use Rattle.tinyjson.proofs.Values.Copy.{filled_all_last, put_all_none, stack_weight_last}
use Rattle.tinyjson.proofs.value.copy.copy.Goals as goal
use Rattle.tinyjson.specs.private.Copy.{put_all, filled_all, step_view, stack_weight, step_weight, items_weight, entries_weight}
use Rattle.tinyjson_grammar.specs.Tree.{array, object, items_of}
use Rattle.std.specs.Slice.Iter.{iter_rest}
use Rattle.tinyjson.specs.View.{view, members_view}

pub loop-step-preserved-in_ok-step-in-Object : goal.loop-step-preserved-in_ok-step-in-Object
loop-step-preserved-in_ok-step-in-Object c =
    let stack = c.loop-step.stack.items in
    let entries = c.in-Object.members.now.entries in
    let all : put_all c.iter-in-Object.result (members_view c.in_ok-copies-in-Object.copies.entries) ≡ members_view entries
    = (λ i. put_all (c.iter-in-Object.ensures.rest i) (members_view (c.in_ok-copies-in-Object.ensures.empty i)))
    ∙ put_all_none entries c.iter-in-Object.ensures.unique in
    c.in_ok-step-in-Object.ensures.view ∙ (ap (λ ms. filled_all stack (object ms)) all
    ∙ (ap (λ s. filled_all stack (step_view s)) (sym c.in-Object.is) ∙ c.loop-step.invariant))

pub loop-step-smaller : goal.loop-step-smaller
loop-step-smaller c =
    let popped = ap stack_weight c.in-Some.ensures.items ∙ stack_weight_last c.pop.new.self.items c.in-Some.partial in
    let one = ap step_weight c.in-Copied.is in
    omega (arith, c.in_ok-step-in-Some.ensures.left, popped, one)

pub loop-step-preserved : goal.loop-step-preserved
loop-step-preserved c =
    let before = ap₂ (λ ps s. filled_all ps (step_view s)) c.in-Some.ensures.items c.in-Copied.is
    ∙ filled_all_last c.pop.new.self.items c.in-Some.partial _ in
    c.in_ok-step-in-Some.ensures.view ∙ (sym before ∙ c.loop-step.invariant)

pub loop-step-init : goal.loop-step-init
loop-step-init c = ap (λ ps. filled_all ps (step_view c.in_ok-step.step)) c.requires ∙ c.in_ok-step.ensures.view

pub loop-step-smaller-in_ok-step-in-Array : goal.loop-step-smaller-in_ok-step-in-Array
loop-step-smaller-in_ok-step-in-Array c =
    let one = ap step_weight c.in-Array.is in
    omega (arith, c.in_ok-step-in-Array.ensures.left, one, ap items_weight (c.iter.ensures.rest ∙ c.deref.ensures.value))

pub loop-step-preserved-in_ok-step-in-Array : goal.loop-step-preserved-in_ok-step-in-Array
loop-step-preserved-in_ok-step-in-Array c =
    let stack = c.loop-step.stack.items in
    let items = c.in-Array.items.now.items in
    let rest : iter_rest c.iter.result ≡ items = c.iter.ensures.rest ∙ c.deref.ensures.value in
    let all : map view c.in_ok-copies-in-Array.copies.items ++ map view (iter_rest c.iter.result) ≡ map view items
    = (λ i. map view (c.in_ok-copies-in-Array.ensures.items i) ++ map view (rest i)) in
    c.in_ok-step-in-Array.ensures.view ∙ (ap (λ ts. filled_all stack (array (items_of ts))) all
    ∙ (ap (λ s. filled_all stack (step_view s)) (sym c.in-Array.is) ∙ c.loop-step.invariant))

pub loop-step-smaller-in_ok-step-in-Object : goal.loop-step-smaller-in_ok-step-in-Object
loop-step-smaller-in_ok-step-in-Object c =
    let one = ap step_weight c.in-Object.is in
    omega (arith, c.in_ok-step-in-Object.ensures.left, one, ap entries_weight c.iter-in-Object.ensures.rest)
