-- What the operations of a patch make of a tree, by the changes of its parts.
use Rattle.std.proofs.Common.{◌≡◌, ℕ, Bool, true, false, List, [], ◌∷◌, ◌++◌, Option, Some, None, Result, Ok, Err, option_map, cond}
use Rattle.std.proofs.Common.{refl, sym, ap, ◌∙◌, subst}
use Rattle.std.specs.Prelude.{option_and_then}
use Rattle.tinyjson.specs.Equality.{tree_eq}
use Rattle.tinyjson_grammar.specs.Tree.{Tree}
use Rattle.tinyjson_patch.specs.Operation.{or_fail, and_then, added, removed, replaced, moved, stayed, copied, tested}
use Rattle.tinyjson_patch.specs.Operation as spec
use Rattle.tinyjson_patch.specs.declared.operation.Reason.{Reason}
use Rattle.tinyjson_patch.specs.declared.operation.Reason.TheVariants as reason
use Rattle.tinyjson_pointer.proofs.Callers.{without_part_at, part_last}
use Rattle.tinyjson_pointer.specs.Change.{changed_at, without_child, without_part}
use Rattle.tinyjson_pointer.specs.Tokens.{begins_with}
use Rattle.tinyjson_pointer.specs.Walk.{step, part_at, with_part}
use Rattle.tinyjson_patch.specs.private.Applying.{Completes, Applies, StopsFor}
use Rattle.tinyjson_patch.specs.private.Changes.{ChangesTo}
use Rattle.tinyjson_patch.specs.private.Edited.{tree}
use Rattle.tinyjson_patch.specs.declared.edit.edited.Edited.{Edited}
use Rattle.tinyjson_patch.specs.declared.edit.change.ChangeError.{ChangeError}
use Rattle.tinyjson_patch.specs.declared.edit.change.ChangeError.TheVariants.{NoPlace, OutOfMemory}
use Rattle.tinyjson_patch.specs.declared.edit.apply.Stop.{Stop}
use Rattle.tinyjson_patch.specs.declared.edit.apply.Stop.TheVariants as stop

-- what completes applies
pub applies : (o : Result Tree Reason) (t t' : Tree) (r : Result (Unit {0}) Stop) → Completes o r t' → Applies o t r t'
applies o t t' (Ok x) h = h
applies o t t' (Err (stop.Failed r)) h = h
applies o t t' (Err stop.OutOfMemory) h = h
applies o t t' (Err stop.TakenApart) h = absurd h

-- an operation that is one change
pub done : (o : Result Tree Reason) (changed : Option Tree) (r : Reason) (t' : Tree) → o ≡ or_fail changed r → changed ≡ Some t' → o ≡ Ok t'
done o changed r t' is h = is ∙ ap (λ c. or_fail c r) h

pub stopped : (o : Result Tree Reason) (changed out : Option Tree) (r : Reason) (t' : Tree) (e : ChangeError) (s : Stop)
    → o ≡ or_fail changed r → ChangesTo changed out (Err e) t' → StopsFor e r s → Completes o (Err s) t'
stopped o changed out r t' NoPlace s is h f =
    subst (λ x. Completes o (Err x) t') (sym f) (is ∙ ap (λ c. or_fail c r) h)
stopped o changed out r t' OutOfMemory s is h f = subst (λ x. Completes o (Err x) t') (sym f) tt

pub removed_is : (t : Tree) (js : List (List ℕ)) (k : List ℕ)
    → removed (js ++ k ∷ []) t ≡ or_fail (changed_at (λ part. without_child part k) t js) reason.NoTarget
removed_is t [] k = ap (λ o. or_fail o reason.NoTarget) (without_part_at t [] k)
removed_is t (j ∷ js) k = ap (λ o. or_fail o reason.NoTarget) (without_part_at t (j ∷ js) k)

pub replaced_is : (t : Tree) (ks : List (List ℕ)) (u : Tree)
    → replaced ks u t ≡ or_fail (changed_at (λ part. Some u) t ks) reason.NoTarget
replaced_is t ks u = by (part_at t ks)
  where
    by : (o : Option Tree) → and_then (or_fail o reason.NoTarget) (λ old. Ok (with_part t ks u))
        ≡ or_fail (option_and_then (λ part. option_map (with_part t ks) (Some u)) o) reason.NoTarget
    by None = refl
    by (Some x) = refl

-- ---- what is taken out at one place, and put at another

module _ (t t1 t' : Tree) (js path : List (List ℕ)) (k : List ℕ) (r : Result (Unit {0}) Stop) where
  taken_is : (part : Tree) → part_at t (js ++ k ∷ []) ≡ Some part → without_part t (js ++ k ∷ []) ≡ Some t1
      → spec.taken (js ++ k ∷ []) path t ≡ added path part t1
  taken_is part there out =
      ap (λ o. and_then (or_fail o reason.NoSource) (λ p. and_then (or_fail (without_part t (js ++ k ∷ [])) reason.NoSource) (added path p))) there
      ∙ ap (λ o. and_then (or_fail o reason.NoSource) (added path part)) out

  pub moves : (part : Edited) → begins_with path (js ++ k ∷ []) ≡ false → changed_at (λ p. without_child p k) t js ≡ Some t1
      → option_map tree (Some part) ≡ option_and_then (λ p. step p k) (part_at t js)
      → Completes (added path (tree part) t1) r t' → Completes (moved (js ++ k ∷ []) path t) r t'
  moves part other out there h =
      subst (λ o. Completes o r t') (sym (ap (λ b. cond b (cond (begins_with (js ++ k ∷ []) path) (stayed (js ++ k ∷ []) t) (Err reason.IntoItself))
      (spec.taken (js ++ k ∷ []) path t)) other
      ∙ taken_is (tree part) (part_last js t k ∙ sym there) (without_part_at t js k ∙ out))) h

  pub none_moves : begins_with path (js ++ k ∷ []) ≡ false → moved (js ++ k ∷ []) path t
      ≡ and_then (or_fail (part_at t (js ++ k ∷ [])) reason.NoSource)
      (λ part. and_then (or_fail (without_part t (js ++ k ∷ [])) reason.NoSource) (added path part))
  none_moves other = ap (λ b. cond b (cond (begins_with (js ++ k ∷ []) path) (stayed (js ++ k ∷ []) t) (Err reason.IntoItself))
      (spec.taken (js ++ k ∷ []) path t)) other

-- where nothing can be taken out
pub no_source : (t t' : Tree) (js path : List (List ℕ)) (k : List ℕ) (out : Option Tree) (e : ChangeError) (s : Stop)
    → begins_with path (js ++ k ∷ []) ≡ false → ChangesTo (changed_at (λ p. without_child p k) t js) out (Err e) t'
    → StopsFor e reason.NoSource s → Completes (moved (js ++ k ∷ []) path t) (Err s) t'
no_source t t' js path k out NoPlace s other h f =
    subst (λ x. Completes (moved (js ++ k ∷ []) path t) (Err x) t') (sym f)
    (none_moves t t t' js path k (Ok tt) other ∙ by (part_at t (js ++ k ∷ [])))
  where
    by : (o : Option Tree)
        → and_then (or_fail o reason.NoSource) (λ part. and_then (or_fail (without_part t (js ++ k ∷ [])) reason.NoSource) (added path part))
        ≡ Err reason.NoSource
    by None = refl
    by (Some x) = ap (λ w. and_then (or_fail w reason.NoSource) (added path x)) (without_part_at t js k ∙ h)
no_source t t' js path k out OutOfMemory s other h f =
    subst (λ x. Completes (moved (js ++ k ∷ []) path t) (Err x) t') (sym f) tt

pub whole_within : (path from : List (List ℕ)) → from ≡ [] → begins_with path from ≡ false → ⊥
whole_within path [] e h = cc
whole_within path (k ∷ ks) e h = cc

pub into_itself : (from path : List (List ℕ)) (t : Tree) → begins_with path from ≡ true → begins_with from path ≡ false
    → moved from path t ≡ Err reason.IntoItself
into_itself from path t a b =
    ap (λ x. cond x (cond (begins_with from path) (stayed from t) (Err reason.IntoItself)) (spec.taken from path t)) a
    ∙ ap (λ x. cond x (stayed from t) (Err reason.IntoItself)) b

pub moved_stays : (from path : List (List ℕ)) (t : Tree) → begins_with path from ≡ true → begins_with from path ≡ true
    → moved from path t ≡ stayed from t
moved_stays from path t a b =
    ap (λ x. cond x (cond (begins_with from path) (stayed from t) (Err reason.IntoItself)) (spec.taken from path t)) a
    ∙ ap (λ x. cond x (stayed from t) (Err reason.IntoItself)) b

pub copied_is : (from path : List (List ℕ)) (t u : Tree) → Some u ≡ part_at t from → copied from path t ≡ added path u t
copied_is from path t u h = ap (λ o. and_then (or_fail o reason.NoSource) (λ part. added path part t)) (sym h)

pub tested_is : (path : List (List ℕ)) (u t part : Tree) (b : Bool) → Some part ≡ part_at t path → b ≡ tree_eq part u
    → tested path u t ≡ cond b (Ok t) (Err reason.Different)
tested_is path u t part b there same =
    ap (λ o. and_then (or_fail o reason.NoTarget) (λ p. cond (tree_eq p u) (Ok t) (Err reason.Different))) (sym there)
    ∙ ap (λ c. cond c (Ok t) (Err reason.Different)) (sym same)
