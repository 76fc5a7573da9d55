-- The document of steps.
use Rattle.std.proofs.Common.{◌≡◌, ℕ, true, List, [], ◌∷◌, ◌++◌, Some, codes}
use Rattle.std.proofs.Common.{append_assoc, append-nil, refl, sym, ap, ◌∙◌, subst}
use Rattle.std.specs.Str.{chars}
use Rattle.std.proofs.Common.{Result, Ok, Err}
use Rattle.std.specs.Result.{IfOk}
use Rattle.std.specs.declared.alloc.AllocError.{AllocError}
use Rattle.tinyjson.proofs.Callers.{are_ascii, chars_literal, find_put, view_Object}
use Rattle.tinyjson.specs.Access.{JsonMap}
use Rattle.tinyjson.specs.Tree.{Tree, string, object, Members, no_members, find, put}
use Rattle.tinyjson.specs.View.{view, items_view, members_view}
use Rattle.tinyjson.specs.declared.value.JsonValue.TheVariants as made
use Rattle.tinyjson.specs.declared.value.JsonValue.{JsonValue}
use Rattle.tinyjson_patch.specs.Document.{IsOperation, AreOperations}
use Rattle.tinyjson_patch.specs.Operation.{add, remove, replace}
use Rattle.tinyjson_pointer.specs.Text.{pointer_text}
use Rattle.tinyjson_pointer.specs.Tokens.{tokens_of}
use Rattle.tinyjson_diff.specs.Documents.{named, with_value}
use Rattle.tinyjson_diff.specs.Steps.{action_of, actions_of, changed_by, IsShort, AreShort}
use Rattle.tinyjson_diff.specs.declared.step.Change.TheVariants as change
use Rattle.tinyjson_diff.specs.declared.step.Step.{Step}

-- ---- the members of an operation

pub literal : (k : List ℕ) (t : Tree) (old new : Members) → are_ascii k ≡ true → new ≡ put (chars k) t old → new ≡ put k t old
literal k t old new a h = h ∙ ap (λ l. put l t old) (chars_literal k a)

module _ (name : List ℕ) (path : List (List ℕ)) where
  name_there : find (codes "op") (named name path) ≡ Some (string name)
  name_there =
      find_put (codes "op") (codes "path") (string (pointer_text path)) (put (codes "op") (string name) no_members)
      ∙ find_put (codes "op") (codes "op") (string name) no_members

  path_there : find (codes "path") (named name path) ≡ Some (string (pointer_text path))
  path_there = find_put (codes "path") (codes "path") (string (pointer_text path)) (put (codes "op") (string name) no_members)

  module _ (u : Tree) where
    name_beside : find (codes "op") (put (codes "value") u (named name path)) ≡ Some (string name)
    name_beside = find_put (codes "op") (codes "value") u (named name path) ∙ name_there

    path_beside : find (codes "path") (put (codes "value") u (named name path)) ≡ Some (string (pointer_text path))
    path_beside = find_put (codes "path") (codes "value") u (named name path) ∙ path_there

    value_there : find (codes "value") (put (codes "value") u (named name path)) ≡ Some u
    value_there = find_put (codes "value") (codes "value") u (named name path)

pub add_made : (path : List (List ℕ)) (u o : Tree) → o ≡ with_value (codes "add") path u → IsShort (add path u) → IsOperation o (add path u)
add_made path u o e s =
    subst (λ x. IsOperation x (add path u)) (sym e)
    (name_beside (codes "add") path u, (path_beside (codes "add") path u, s), value_there (codes "add") path u)

pub replace_made : (path : List (List ℕ)) (u o : Tree) → o ≡ with_value (codes "replace") path u → IsShort (replace path u)
    → IsOperation o (replace path u)
replace_made path u o e s =
    subst (λ x. IsOperation x (replace path u)) (sym e)
    (name_beside (codes "replace") path u, (path_beside (codes "replace") path u, s), value_there (codes "replace") path u)

pub remove_made : (path : List (List ℕ)) (o : Tree) → o ≡ object (named (codes "remove") path) → IsShort (remove path)
    → IsOperation o (remove path)
remove_made path o e s =
    subst (λ x. IsOperation x (remove path)) (sym e) (name_there (codes "remove") path, (path_there (codes "remove") path, s))

module _ (r : Result JsonValue AllocError) (s : Step) where
  abbrev path : List (List ℕ)
  path = tokens_of s.path

  pub add_written : (v : JsonValue) → s.change ≡ change.Add v → IfOk r (λ o. view o ≡ with_value (chars (codes "add")) path (view v))
      → IfOk r (λ o. IsShort (action_of s) → IsOperation (view o) (action_of s))
  add_written v is h = by r h
    where
      same : action_of s ≡ add path (view v)
      same = ap (λ c. changed_by c path) is

      by : (x : Result JsonValue AllocError) → IfOk x (λ o. view o ≡ with_value (chars (codes "add")) path (view v))
          → IfOk x (λ o. IsShort (action_of s) → IsOperation (view o) (action_of s))
      by (Ok o) e = λ short. subst (IsOperation (view o)) (sym same)
          (add_made path (view v) (view o) (e ∙ ap (λ n. with_value n path (view v)) (chars_literal (codes "add") refl))
          (subst IsShort same short))
      by (Err e) g = tt

  pub replace_written : (v : JsonValue) → s.change ≡ change.Replace v
      → IfOk r (λ o. view o ≡ with_value (chars (codes "replace")) path (view v))
      → IfOk r (λ o. IsShort (action_of s) → IsOperation (view o) (action_of s))
  replace_written v is h = by r h
    where
      same : action_of s ≡ replace path (view v)
      same = ap (λ c. changed_by c path) is

      by : (x : Result JsonValue AllocError) → IfOk x (λ o. view o ≡ with_value (chars (codes "replace")) path (view v))
          → IfOk x (λ o. IsShort (action_of s) → IsOperation (view o) (action_of s))
      by (Ok o) e = λ short. subst (IsOperation (view o)) (sym same)
          (replace_made path (view v) (view o) (e ∙ ap (λ n. with_value n path (view v)) (chars_literal (codes "replace") refl))
          (subst IsShort same short))
      by (Err e) g = tt

pub remove_written : (s : Step) (m : JsonMap) → s.change ≡ change.Remove
    → members_view m.entries ≡ named (chars (codes "remove")) (tokens_of s.path)
    → IsShort (action_of s) → IsOperation (view (made.Object m)) (action_of s)
remove_written s m is e short =
    let same : action_of s ≡ remove (tokens_of s.path) = ap (λ c. changed_by c (tokens_of s.path)) is in
    subst (IsOperation (view (made.Object m))) (sym same)
    (remove_made (tokens_of s.path) (view (made.Object m))
    (view_Object m ∙ ap object (e ∙ ap (λ n. named n (tokens_of s.path)) (chars_literal (codes "remove") refl))) (subst IsShort same short))

-- ---- the operations

-- each value is the operation of a step, in order
abbrev pub AreMade : List JsonValue → List Step → Type 0
AreMade [] [] = Unit {0}
AreMade (v ∷ vs) (s ∷ ss) = (IsShort (action_of s) → IsOperation (view v) (action_of s)) × AreMade vs ss
AreMade _ _ = ⊥

made_last : (vs : List JsonValue) (ss : List Step) (v : JsonValue) (s : Step) → AreMade vs ss
    → (IsShort (action_of s) → IsOperation (view v) (action_of s)) → AreMade (vs ++ v ∷ []) (ss ++ s ∷ [])
made_last [] [] v s h is = (is, tt)
made_last [] (x ∷ ss) v s h is = absurd h
made_last (w ∷ vs) [] v s h is = absurd h
made_last (w ∷ vs) (x ∷ ss) v s h is = (h.0, made_last vs ss v s h.1 is)

made_all : (vs : List JsonValue) (ss : List Step) → AreMade vs ss → AreShort (actions_of ss) → AreOperations (items_view vs) (actions_of ss)
made_all [] [] h s = tt
made_all [] (x ∷ ss) h s = absurd h
made_all (w ∷ vs) [] h s = absurd h
made_all (w ∷ vs) (x ∷ ss) h s = (h.0 s.0, made_all vs ss h.1 s.1)

-- The values are the operations of the steps before the rest.
pub record IsMaking (all rest : List Step) (vs : List JsonValue) : Type 0 where
  pub done : List Step
  pub split : all ≡ done ++ rest
  pub made : AreMade vs done

pub making_begins : (all rest : List Step) → rest ≡ all → IsMaking all rest []
making_begins all rest e = record { done = []; split = sym e; made = tt }

pub making_next : (all rest more : List Step) (vs ws : List JsonValue) (s : Step) (v : JsonValue) → IsMaking all rest vs → rest ≡ s ∷ more
    → (IsShort (action_of s) → IsOperation (view v) (action_of s)) → ws ≡ vs ++ v ∷ [] → IsMaking all more ws
making_next all rest more vs ws s v h is o push = record {
  done = h.done ++ s ∷ [];
  split = h.split ∙ (ap (λ x. h.done ++ x) is ∙ sym (append_assoc h.done (s ∷ []) more));
  made = subst (λ x. AreMade x (h.done ++ s ∷ [])) (sym push) (made_last vs h.done v s h.made o);
}

pub making_ends : (all rest : List Step) (vs : List JsonValue) → rest ≡ [] → IsMaking all rest vs → AreShort (actions_of all)
    → AreOperations (items_view vs) (actions_of all)
making_ends all rest vs none h s =
    let whole : all ≡ h.done = h.split ∙ (ap (λ x. h.done ++ x) none ∙ append-nil h.done) in
    subst (λ x. AreOperations (items_view vs) (actions_of x)) (sym whole)
    (made_all vs h.done h.made (subst (λ x. AreShort (actions_of x)) whole s))
