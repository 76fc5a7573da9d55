use Rattle.std.proofs.Common.{true, ◌++◌, ◌∷◌, ◌∙◌, ap, sym, arith, subst}
use Rattle.std.specs.Str.{encode_utf8_all}
use Rattle.std.specs.List.Sorted.{IsStrictlySortedBy}
use Rattle.std.specs.Map.{keys_of}
use Rattle.std.specs.String.{string_cmp}
use Rattle.std.proofs.lemmas.Result.{MatchResult-from_err}
use Rattle.tinyjson.proofs.Callers.{goes, stop, stops, written_none}
use Rattle.tinyjson.specs.Text.{compact}
use Rattle.tinyjson_grammar.specs.Tree.{array, object}
use Rattle.tinyjson_view.specs.Views.{tree_of}
use Rattle.tinyjson_patch.specs.private.Edited.{tree, items_tree, members_tree}
use Rattle.tinyjson_patch.specs.private.Text.{items_bytes, members_bytes, stack_bytes}
use Rattle.tinyjson_patch.proofs.Editing.Left.{array_weight, object_weight}
use Rattle.tinyjson_patch.proofs.Editing.Listed.{members_are_listed}
use Rattle.tinyjson_patch.proofs.Editing.Pieces.{array_opens, object_opens, last_piece, ok_always, some_weight, stack_last, weight_last}
use Rattle.tinyjson_patch.proofs.Editing.Trees.{tree_Array, tree_Kept, tree_Object}
use Rattle.tinyjson_patch.proofs.edit.text.begin.Goals as goal

pub returns-in-Kept-clause-sent : goal.returns-in-Kept-clause-sent
returns-in-Kept-clause-sent g c =
    let rest = stack_bytes c.args.stack.now.items in
    let same = ap tree c.in-Kept.is ∙ tree_Kept c.in-Kept.view in
    last_piece _ _ _ _ (encode_utf8_all (compact (tree_of c.in-Kept.view))) rest c.write_to.result c.write_to.ensures
    (written_none _ _ _ (ap (λ u. encode_utf8_all (compact u) ++ rest) same))

pub returns-in-Kept-clause-less : goal.returns-in-Kept-clause-less
returns-in-Kept-clause-less g c = let w = some_weight (tree c.args.part.now) in ok_always c.write_to.result (omega (arith, w))

pub returns-in_err-write_all-in-Array-clause-sent : goal.returns-in_err-write_all-in-Array-clause-sent
returns-in_err-write_all-in-Array-clause-sent g c =
    let rest = stack_bytes c.args.stack.now.items in
    let ts = items_tree c.in-Array.items.items in
    let same = ap tree c.in-Array.is ∙ tree_Array c.in-Array.items in
    MatchResult-from_err _ _ _ c.from_residual.ensures.0
    (λ _. stops (items_bytes true ts ++ rest) c.in_err-write_all-in-Array.ensures
    (written_none _ _ _ (ap (λ z. z ++ rest) (array_opens ts (tree c.args.part.now) same))))

pub returns-in_err-push-in-Array-clause-sent : goal.returns-in_err-push-in-Array-clause-sent
returns-in_err-push-in-Array-clause-sent g c =
    let rest = stack_bytes c.args.stack.now.items in
    let ts = items_tree c.in-Array.items.items in
    let same = ap tree c.in-Array.is ∙ tree_Array c.in-Array.items in
    MatchResult-from_err _ _ _ c.from_residual-in_err-push-in-Array.ensures.0
    (λ _. stop (goes (items_bytes true ts ++ rest) c.in_ok-write_all-in-Array.ensures
    (written_none _ _ _ (ap (λ z. z ++ rest) (array_opens ts (tree c.args.part.now) same)))))

pub returns-in_ok-push-in-Array-clause-sent : goal.returns-in_ok-push-in-Array-clause-sent
returns-in_ok-push-in-Array-clause-sent g c =
    let rest = stack_bytes c.args.stack.now.items in
    let ts = items_tree c.in-Array.items.items in
    let same = ap tree c.in-Array.is ∙ tree_Array c.in-Array.items in
    goes (stack_bytes c.push.new.self.items) c.in_ok-write_all-in-Array.ensures
    (written_none _ _ _ (ap (λ z. z ++ rest) (array_opens ts (tree c.args.part.now) same)
    ∙ ap (λ z. 91 ∷ z) (ap (λ es. items_bytes true (items_tree es) ++ rest) (sym c.iter.ensures.rest)
    ∙ sym (stack_last _ _ _ c.in_ok-push-in-Array.ensures.items))))

pub returns-in_ok-push-in-Array-clause-less : goal.returns-in_ok-push-in-Array-clause-less
returns-in_ok-push-in-Array-clause-less g c =
    let all = ap (λ es. array (items_tree es)) c.iter.ensures.rest ∙ sym (ap tree c.in-Array.is ∙ tree_Array c.in-Array.items) in
    let n = weight_last _ _ _ c.in_ok-push-in-Array.ensures.items in
    omega (arith, n, array_weight c.iter.result (tree c.args.part.now) all)

pub returns-in_err-write_all-in-Object-clause-sent : goal.returns-in_err-write_all-in-Object-clause-sent
returns-in_err-write_all-in-Object-clause-sent g c =
    let rest = stack_bytes c.args.stack.now.items in
    let ms = members_tree c.in-Object.members.entries in
    let same = ap tree c.in-Object.is ∙ tree_Object c.in-Object.members in
    MatchResult-from_err _ _ _ c.from_residual-in_err-write_all-in-Object.ensures.0
    (λ _. stops (members_bytes true ms ++ rest) c.in_err-write_all-in-Object.ensures
    (written_none _ _ _ (ap (λ z. z ++ rest) (object_opens ms (tree c.args.part.now) same))))

pub returns-in_err-push-in-Object-clause-sent : goal.returns-in_err-push-in-Object-clause-sent
returns-in_err-push-in-Object-clause-sent g c =
    let rest = stack_bytes c.args.stack.now.items in
    let ms = members_tree c.in-Object.members.entries in
    let same = ap tree c.in-Object.is ∙ tree_Object c.in-Object.members in
    MatchResult-from_err _ _ _ c.from_residual-in_err-push-in-Object.ensures.0
    (λ _. stop (goes (members_bytes true ms ++ rest) c.in_ok-write_all-in-Object.ensures
    (written_none _ _ _ (ap (λ z. z ++ rest) (object_opens ms (tree c.args.part.now) same)))))

pub returns-in_ok-push-in-Object-clause-sent : goal.returns-in_ok-push-in-Object-clause-sent
returns-in_ok-push-in-Object-clause-sent g c =
    let rest = stack_bytes c.args.stack.now.items in
    let es = c.iter-in-Object.result in
    let ms = members_tree c.in-Object.members.entries in
    let same = ap tree c.in-Object.is ∙ tree_Object c.in-Object.members in
    let sorted = subst (λ xs. IsStrictlySortedBy string_cmp (keys_of xs)) (sym c.iter-in-Object.ensures.rest) c.iter-in-Object.ensures.ordered in
    let as_listed = ap members_tree (sym c.iter-in-Object.ensures.rest) ∙ members_are_listed es sorted in
    goes (stack_bytes c.push-in-Object.new.self.items) c.in_ok-write_all-in-Object.ensures
    (written_none _ _ _ (ap (λ z. z ++ rest) (object_opens ms (tree c.args.part.now) same)
    ∙ ap (λ z. 123 ∷ z) (ap (λ ns. members_bytes true ns ++ rest) as_listed
    ∙ sym (stack_last _ _ _ c.in_ok-push-in-Object.ensures.items))))

pub returns-in_ok-push-in-Object-clause-less : goal.returns-in_ok-push-in-Object-clause-less
returns-in_ok-push-in-Object-clause-less g c =
    let es = c.iter-in-Object.result in
    let sorted = subst (λ xs. IsStrictlySortedBy string_cmp (keys_of xs)) (sym c.iter-in-Object.ensures.rest) c.iter-in-Object.ensures.ordered in
    let all = ap (λ xs. object (members_tree xs)) c.iter-in-Object.ensures.rest ∙ sym (ap tree c.in-Object.is ∙ tree_Object c.in-Object.members) in
    let n = weight_last _ _ _ c.in_ok-push-in-Object.ensures.items in
    omega (arith, n, object_weight es (tree c.args.part.now) sorted all)
