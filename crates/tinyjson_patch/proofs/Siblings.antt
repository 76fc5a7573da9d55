-- Operations on the items of one array, and on the trees that have it.
use Rattle.std.proofs.Common.{◌≡◌, ◌&&◌, ℕ, Bool, true, false, cond, List, [], ◌∷◌, Option, Some, None, IsSome, Result, Ok, Err}
use Rattle.std.proofs.Common.{option_map, refl, sym, ap, ◌∙◌, subst}
use Rattle.tinyjson.specs.Soundness.{IsTree}
use Rattle.tinyjson.specs.Tree.{Tree, array}
use Rattle.tinyjson.specs.View.{items_view}
use Rattle.tinyjson.specs.declared.value.JsonValue.{JsonValue}
use Rattle.tinyjson_pointer.proofs.Callers.{inserted_beside, removed_beside, found_beside, replaced_beside, item_in_its_place}
use Rattle.tinyjson_pointer.specs.Change.{with_child, without_child, without_step, without_part}
use Rattle.tinyjson_pointer.specs.Siblings.{container_at, with_container, child_name, are_beside}
use Rattle.tinyjson_pointer.specs.Tokens.{begins_with}
use Rattle.tinyjson_pointer.specs.Walk.{step, with_step, part_at, with_part}
use Rattle.tinyjson_patch.specs.Operation.{or_fail, and_then, added, removed, replaced, stayed, taken, moved}
use Rattle.tinyjson_patch.specs.Running.{with_items}
use Rattle.tinyjson_patch.specs.declared.operation.Reason.{Reason}
use Rattle.tinyjson_patch.specs.declared.operation.Reason.TheVariants.{NoPlace, NoTarget, NoSource, IntoItself}

pub first_true : (a b : Bool) → (a && b) ≡ true → a ≡ true
first_true true b h = refl
first_true false b h = cc

pub second_true : (a b : Bool) → (a && b) ≡ true → b ≡ true
second_true true b h = h
second_true false b h = cc

module _ (t : Tree) (ks ls : List (List ℕ)) (s : IsTree t) (there : IsSome (container_at t ks)) (beside : are_beside ls ks ≡ true) where
  pub added_among : (u : Tree) (vs ws : List JsonValue)
      → with_child (array (items_view vs)) (child_name ls) u ≡ Some (array (items_view ws))
      → added ls u (with_items t ks vs) ≡ Ok (with_items t ks ws)
  added_among u vs ws h =
      ap (λ o. or_fail o NoPlace)
      (inserted_beside t (array (items_view vs)) u ks ls s there beside ∙ ap (option_map (with_container t ks)) h)

  pub no_place_among : (u : Tree) (vs : List JsonValue) → with_child (array (items_view vs)) (child_name ls) u ≡ None
      → added ls u (with_items t ks vs) ≡ Err NoPlace
  no_place_among u vs h =
      ap (λ o. or_fail o NoPlace)
      (inserted_beside t (array (items_view vs)) u ks ls s there beside ∙ ap (option_map (with_container t ks)) h)

  not_whole : (v : Tree) → removed ls v ≡ or_fail (without_part v ls) NoTarget
  not_whole v = by ls beside
    where
      by : (js : List (List ℕ)) → are_beside js ks ≡ true → removed js v ≡ or_fail (without_part v js) NoTarget
      by [] h = cc
      by (j ∷ js) h = refl

  pub removed_among : (vs ws : List JsonValue) → without_child (array (items_view vs)) (child_name ls) ≡ Some (array (items_view ws))
      → removed ls (with_items t ks vs) ≡ Ok (with_items t ks ws)
  removed_among vs ws h =
      not_whole (with_items t ks vs)
      ∙ ap (λ o. or_fail o NoTarget)
      (removed_beside t (array (items_view vs)) ks ls s there beside ∙ ap (option_map (with_container t ks)) h)

  pub no_target_among : (vs : List JsonValue) → without_child (array (items_view vs)) (child_name ls) ≡ None
      → removed ls (with_items t ks vs) ≡ Err NoTarget
  no_target_among vs h =
      not_whole (with_items t ks vs)
      ∙ ap (λ o. or_fail o NoTarget)
      (removed_beside t (array (items_view vs)) ks ls s there beside ∙ ap (option_map (with_container t ks)) h)

  found : (vs : List JsonValue) → part_at (with_items t ks vs) ls ≡ step (array (items_view vs)) (child_name ls)
  found vs = found_beside t (array (items_view vs)) ks ls there beside

  -- what is said of the part that a path names, where there is one and where there is none
  pub at_part : (vs : List JsonValue) (u : Tree) (r : Reason) (f : Tree → Result Tree Reason)
      → Some u ≡ step (array (items_view vs)) (child_name ls) → and_then (or_fail (part_at (with_items t ks vs) ls) r) f ≡ f u
  at_part vs u r f h = ap (λ o. and_then (or_fail o r) f) (found vs ∙ sym h)

  pub at_none : (vs : List JsonValue) (r : Reason) (f : Tree → Result Tree Reason)
      → step (array (items_view vs)) (child_name ls) ≡ None → and_then (or_fail (part_at (with_items t ks vs) ls) r) f ≡ Err r
  at_none vs r f h = ap (λ o. and_then (or_fail o r) f) (found vs ∙ h)

  -- an item is taken out, and another one put in at its index
  pub replaced_among : (u old : Tree) (vs us : List JsonValue) → step (array (items_view vs)) (child_name ls) ≡ Some old
      → without_child (array (items_view vs)) (child_name ls) ≡ Some (array (items_view us))
      → added ls u (with_items t ks us) ≡ replaced ls u (with_items t ks vs)
  replaced_among u old vs us at out =
      let d : Tree = array (items_view vs) in
      let k : List ℕ = child_name ls in
      let rest : Some (without_step d k) ≡ Some (array (items_view us))
      = sym (ap (option_map (λ x. without_step d k)) at) ∙ out in
      let put : with_child (array (items_view us)) k u ≡ Some (with_step d k u)
      = subst (λ x. with_child x k u ≡ Some (with_step d k u)) (one_tree (without_step d k) (array (items_view us)) rest)
      (item_in_its_place (items_view vs) k old u at) in
      ap (λ o. or_fail o NoPlace)
      (inserted_beside t (array (items_view us)) u ks ls s there beside ∙ ap (option_map (with_container t ks)) put)
      ∙ (ap Ok (sym (replaced_beside t d old u ks ls s there beside at))
      ∙ sym (at_part vs old NoTarget (λ x. Ok (with_part (with_items t ks vs) ls u)) (sym at)))
    where
      one_tree : (x y : Tree) → Some x ≡ Some y → x ≡ y
      one_tree x y e = cc

pub none_there : (d : Tree) (k : List ℕ) → without_child d k ≡ None → step d k ≡ None
none_there d k h = by (step d k) h
  where
    by : (o : Option Tree) → option_map (λ x. without_step d k) o ≡ None → o ≡ None
    by None e = refl
    by (Some x) e = cc

-- ---- moves

module _ (from path : List (List ℕ)) (t : Tree) (b c : Bool) (begins : b ≡ begins_with path from) where
  pub moved_elsewhere : b ≡ false → moved from path t ≡ taken from path t
  moved_elsewhere h =
      ap (λ x. cond x (cond (begins_with from path) (stayed from t) (Err IntoItself)) (taken from path t)) (sym begins ∙ h)

  module _ (back : c ≡ begins_with from path) (h : b ≡ true) where
    pub moved_inside : c ≡ false → moved from path t ≡ Err IntoItself
    moved_inside g =
        ap (λ x. cond x (cond (begins_with from path) (stayed from t) (Err IntoItself)) (taken from path t)) (sym begins ∙ h)
        ∙ ap (λ x. cond x (stayed from t) (Err IntoItself)) (sym back ∙ g)

    pub moved_nowhere : c ≡ true → moved from path t ≡ stayed from t
    moved_nowhere g =
        ap (λ x. cond x (cond (begins_with from path) (stayed from t) (Err IntoItself)) (taken from path t)) (sym begins ∙ h)
        ∙ ap (λ x. cond x (stayed from t) (Err IntoItself)) (sym back ∙ g)

-- an item is taken out, and then put in
pub taken_among : (t : Tree) (ks from path : List (List ℕ)) → IsTree t → IsSome (container_at t ks) → are_beside from ks ≡ true
    → (u : Tree) (vs us : List JsonValue) → step (array (items_view vs)) (child_name from) ≡ Some u
    → without_child (array (items_view vs)) (child_name from) ≡ Some (array (items_view us))
    → taken from path (with_items t ks vs) ≡ added path u (with_items t ks us)
taken_among t ks from path s there beside u vs us at out =
    at_part t ks from s there beside vs u NoSource
    (λ part. and_then (or_fail (without_part (with_items t ks vs) from) NoSource) (added path part)) (sym at)
    ∙ ap (λ o. and_then (or_fail o NoSource) (added path u))
    (removed_beside t (array (items_view vs)) ks from s there beside ∙ ap (option_map (with_container t ks)) out)
