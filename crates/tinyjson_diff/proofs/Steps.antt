-- Steps that are found, and the steps of a part.
use Rattle.std.proofs.Common.{◌≡◌, ◌<◌, ◌≤◌, ◌+◌, ℕ, List, [], ◌∷◌, ◌++◌, Some, length, get_or, drop, append_assoc, append-nil}
use Rattle.std.proofs.Common.{refl, sym, ap, ◌∙◌, subst}
use Rattle.std.proofs.lemmas.List.{drop_all, drop_more, map-append}
use Rattle.std.specs.Str.{chars}
use Rattle.tinyjson.specs.Tree.{Tree, member}
use Rattle.tinyjson_patch.specs.Document.{token_limit}
use Rattle.tinyjson_patch.specs.Operation.{Action}
use Rattle.tinyjson_pointer.specs.Index.{index_of}
use Rattle.tinyjson_pointer.specs.Tokens.{tokens_of}
use Rattle.tinyjson_pointer.specs.declared.pointer.Pointer.{Pointer}
use Rattle.tinyjson_view.specs.Views.{tree_of, members_of}
use Rattle.tinyjson_view.specs.declared.view.MemberView.{MemberView}
use Rattle.tinyjson_diff.specs.Steps.{action_of, actions_of, changed_by, below, AreBelow, AppendsBelow, AreFit, AreShort}
use Rattle.tinyjson_diff.specs.Steps.{IsStepAt}
use Rattle.tinyjson_diff.specs.declared.step.Change.{Change}
use Rattle.tinyjson_diff.specs.declared.step.Change.TheVariants as change
use Rattle.tinyjson_diff.specs.declared.step.Step.{Step}

-- ---- the rest of a list

pub drop_item : {X : Type 0} (xs : List X) (i : ℕ) (x : X) → i < length xs → x ≡ get_or xs i x → drop i xs ≡ x ∷ drop (i + 1) xs
drop_item xs i x h e = drop_more xs i x h ∙ ap (λ y. y ∷ drop (i + 1) xs) (sym e)

pub drop_end : {X : Type 0} (xs : List X) (i : ℕ) → length xs ≤ i → drop i xs ≡ []
drop_end xs i h = drop_all i xs h

-- ---- the steps of a part

pub pushed : (old new : List Step) (s : Step) → new ≡ old ++ s ∷ [] → actions_of new ≡ actions_of old ++ action_of s ∷ []
pushed old new s e = ap actions_of e ∙ map-append action_of old (s ∷ [])

pub pushed_at : (old new : List Step) (s : Step) (c : Change) (key k : List ℕ) → new ≡ old ++ s ∷ [] → IsStepAt (λ l. l ≡ key) c s
    → key ≡ k → actions_of new ≡ actions_of old ++ changed_by c (k ∷ []) ∷ []
pushed_at old new s c key k push is e =
    pushed old new s push ∙ ap (λ a. actions_of old ++ a ∷ []) (is.2 ∙ ap (λ l. changed_by c (l ∷ [])) (is.1 ∙ e))

pub pushed_item : (old new : List Step) (s : Step) (c : Change) (i : ℕ) → new ≡ old ++ s ∷ []
    → (is : IsStepAt (λ l. index_of l ≡ Some i) c s)
    → actions_of new ≡ actions_of old ++ changed_by c (is.0 ∷ []) ∷ []
pushed_item old new s c i push is = pushed old new s push ∙ ap (λ a. actions_of old ++ a ∷ []) is.2

-- the first of the members that are left
pub listed_first : (ps : List MemberView) (i : ℕ) (x : MemberView) → i < length ps → x ≡ get_or ps i x
    → members_of (drop i ps) ≡ member (chars x.key.now) (tree_of x.value) (members_of (drop (i + 1) ps))
listed_first ps i x h e = ap members_of (drop_item ps i x h e)

changed_below : (c : Change) (k : List ℕ) (p : List (List ℕ)) → changed_by c (k ∷ p) ≡ below k (changed_by c p)
changed_below (change.Add v) k p = refl
changed_below change.Remove k p = refl
changed_below (change.Replace v) k p = refl

module _ (N : List ℕ → Type 0) where
  below_last : (k : List ℕ) (a : Action) (xs ys : List Action) → N k → AreBelow N xs ys
      → AreBelow N (xs ++ a ∷ []) (ys ++ below k a ∷ [])
  below_last k a [] [] n h = ((k, n, refl), tt)
  below_last k a [] (y ∷ ys) n h = absurd h
  below_last k a (x ∷ xs) [] n h = absurd h
  below_last k a (x ∷ xs) (y ∷ ys) n h = (h.0, below_last k a xs ys n h.1)

  -- The steps of the part before the rest are appended.
  pub record IsAppending (old inner rest now : List Step) : Type 0 where
    pub done : List Step
    pub split : inner ≡ done ++ rest
    pub appended : AppendsBelow N old done now

  pub appending_begins : (old inner rest : List Step) → rest ≡ inner → IsAppending old inner rest old
  appending_begins old inner rest e =
      record { done = []; split = sym e; appended = ([], sym (append-nil (actions_of old)), tt) }

  pub appending_next : (old inner rest now next more : List Step) (s : Step) (p : Pointer) (k : List ℕ) → IsAppending old inner rest now
      → rest ≡ s ∷ more → N k → tokens_of p ≡ k ∷ tokens_of s.path → next ≡ now ++ record { path = p; change = s.change } ∷ []
      → IsAppending old inner more next
  appending_next old inner rest now next more s p k h is n tokens push =
      let g = h.appended in
      let b : Action = below k (action_of s) in
      let same : changed_by s.change (tokens_of p) ≡ b = ap (changed_by s.change) tokens ∙ changed_below s.change k (tokens_of s.path) in
      record {
        done = h.done ++ s ∷ [];
        split = h.split ∙ (ap (λ x. h.done ++ x) is ∙ sym (append_assoc h.done (s ∷ []) more));
        appended = (
          g.0 ++ b ∷ [],
          pushed now next (record { path = p; change = s.change }) push
              ∙ (ap (λ x. actions_of now ++ x ∷ []) same ∙ (ap (λ x. x ++ b ∷ []) g.1 ∙ append_assoc (actions_of old) g.0 (b ∷ []))),
          subst (λ x. AreBelow N x (g.0 ++ b ∷ [])) (sym (map-append action_of h.done (s ∷ [])))
              (below_last k (action_of s) (actions_of h.done) g.0 n g.2),
        );
      }

  pub appending_ends : (old inner rest now : List Step) → rest ≡ [] → IsAppending old inner rest now → AppendsBelow N old inner now
  appending_ends old inner rest now none h =
      subst (λ x. AppendsBelow N old x now) (sym (h.split ∙ (ap (λ x. h.done ++ x) none ∙ append-nil h.done))) h.appended

-- ---- their paths are short

pub short : (t u : Tree) (xs : List Action) → AreFit token_limit t u xs → AreShort xs
short t u [] h = tt
short t u (a ∷ xs) h = (h.0.0, short t u xs h.1)
