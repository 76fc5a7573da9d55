use Rattle.std.proofs.Common.{[], ◌∷◌, ◌∙◌, ap, arith, reverse, subst, sym}
use Rattle.std.proofs.lemmas.List.{reverse-append}
use Rattle.std.proofs.lemmas.Result.{IfOk-from_err}
use Rattle.std.specs.List.Sorted.{IsStrictlySortedBy}
use Rattle.std.specs.Map.{keys_of}
use Rattle.std.specs.String.{string_cmp}
use Rattle.tinyjson.specs.Events.{Puts}
use Rattle.tinyjson_grammar.specs.Tree.{array, object}
use Rattle.tinyjson_document.proofs.Callers.{ok_map}
use Rattle.tinyjson_patch.specs.private.Edited.{tree, items_tree, members_tree}
use Rattle.tinyjson_patch.specs.private.Writing.{Waits, left_weight}
use Rattle.tinyjson_patch.specs.declared.edit.write.Left.TheVariants as left
use Rattle.tinyjson_patch.proofs.Editing.Left.{array_weight, completed, items_opened, members_opened, object_weight, weight_last}
use Rattle.tinyjson_patch.proofs.Editing.Trees.{tree_Array, tree_Kept, tree_Object}
use Rattle.tinyjson_patch.proofs.edit.write.begin.Goals as goal

pub returns-in-Kept-clause-waits : goal.returns-in-Kept-clause-waits
returns-in-Kept-clause-waits g c = λ start os fs t h n.
    let E = g.E.Events in
    let u = tree c.args.part.now in
    let same = sym (ap tree c.in-Kept.is ∙ tree_Kept c.in-Kept.view) in
    ok_map c.pass_view.result (λ p. completed (E.holds start) (E.is start) os t (reverse c.args.stack.now.items) fs u
    c.pass_view.new.events (subst (λ x. Puts (E.holds start) (E.is start) fs x c.pass_view.new.events) same p) n)
    (c.pass_view.ensures start fs h)

pub returns-in_ok-push-in-Array-clause-waits : goal.returns-in_ok-push-in-Array-clause-waits
returns-in_ok-push-in-Array-clause-waits g c = λ start os fs t h n.
    let E = g.E.Events in
    let stack = c.args.stack.now.items in
    let xs = c.iter.result in
    let all = ap (λ es. array (items_tree es)) c.iter.ensures.rest ∙ sym (ap tree c.in-Array.is ∙ tree_Array c.in-Array.items) in
    let last = ap reverse c.in_ok-push-in-Array.ensures.items ∙ reverse-append stack (left.Items xs ∷ []) in
    subst (λ rs. Waits (E.holds start) (E.is start) os t rs c.open_array.new.self) (sym last)
    (items_opened (E.holds start) (E.is start) os t (reverse stack) fs (tree c.args.part.now) c.open_array.new.self n xs all
    (c.in_ok-open_array-in-Array.ensures start fs h))

pub returns-in_ok-push-in-Array-clause-less : goal.returns-in_ok-push-in-Array-clause-less
returns-in_ok-push-in-Array-clause-less g c =
    let xs = c.iter.result in
    let all = ap (λ es. array (items_tree es)) c.iter.ensures.rest ∙ sym (ap tree c.in-Array.is ∙ tree_Array c.in-Array.items) in
    let pushed = ap left_weight c.in_ok-push-in-Array.ensures.items ∙ weight_last c.args.stack.now.items (left.Items xs) in
    omega (arith, pushed, array_weight xs (tree c.args.part.now) all)

pub returns-in_ok-push-in-Object-clause-waits : goal.returns-in_ok-push-in-Object-clause-waits
returns-in_ok-push-in-Object-clause-waits g c = λ start os fs t h n.
    let E = g.E.Events in
    let stack = c.args.stack.now.items in
    let es = c.iter-in-Object.result in
    let sorted = subst (λ xs. IsStrictlySortedBy string_cmp (keys_of xs)) (sym c.iter-in-Object.ensures.rest) c.iter-in-Object.ensures.ordered in
    let all = ap (λ xs. object (members_tree xs)) c.iter-in-Object.ensures.rest ∙ sym (ap tree c.in-Object.is ∙ tree_Object c.in-Object.members) in
    let last = ap reverse c.in_ok-push-in-Object.ensures.items ∙ reverse-append stack (left.Members es ∷ []) in
    subst (λ rs. Waits (E.holds start) (E.is start) os t rs c.open_object.new.self) (sym last)
    (members_opened (E.holds start) (E.is start) os t (reverse stack) fs (tree c.args.part.now) c.open_object.new.self n es
    sorted all (c.in_ok-open_object-in-Object.ensures start fs h))

pub returns-in_ok-push-in-Object-clause-less : goal.returns-in_ok-push-in-Object-clause-less
returns-in_ok-push-in-Object-clause-less g c =
    let es = c.iter-in-Object.result in
    let sorted = subst (λ xs. IsStrictlySortedBy string_cmp (keys_of xs)) (sym c.iter-in-Object.ensures.rest) c.iter-in-Object.ensures.ordered in
    let all = ap (λ xs. object (members_tree xs)) c.iter-in-Object.ensures.rest ∙ sym (ap tree c.in-Object.is ∙ tree_Object c.in-Object.members) in
    let pushed = ap left_weight c.in_ok-push-in-Object.ensures.items ∙ weight_last c.args.stack.now.items (left.Members es) in
    omega (arith, pushed, object_weight es (tree c.args.part.now) sorted all)

pub returns-in_err-open_array-in-Array-clause-waits : goal.returns-in_err-open_array-in-Array-clause-waits
returns-in_err-open_array-in-Array-clause-waits g c = λ start os fs t h n. IfOk-from_err c.from_residual.result _ c.from_residual.ensures.0

pub returns-in_err-push-in-Array-clause-waits : goal.returns-in_err-push-in-Array-clause-waits
returns-in_err-push-in-Array-clause-waits g c = λ start os fs t h n. IfOk-from_err c.from_residual-in_err-push-in-Array.result _ c.from_residual-in_err-push-in-Array.ensures.0

pub returns-in_err-open_object-in-Object-clause-waits : goal.returns-in_err-open_object-in-Object-clause-waits
returns-in_err-open_object-in-Object-clause-waits g c = λ start os fs t h n. IfOk-from_err c.from_residual-in_err-open_object-in-Object.result _ c.from_residual-in_err-open_object-in-Object.ensures.0

pub returns-in_err-push-in-Object-clause-waits : goal.returns-in_err-push-in-Object-clause-waits
returns-in_err-push-in-Object-clause-waits g c = λ start os fs t h n. IfOk-from_err c.from_residual-in_err-push-in-Object.result _ c.from_residual-in_err-push-in-Object.ensures.0
