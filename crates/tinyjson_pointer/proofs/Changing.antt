-- A part of a tree is changed: it is taken out, and what it becomes is put back.
use Rattle.std.proofs.Common.{◌≡◌, ◌≤◌, ◌<◌, ℕ, zero, suc, Bool, true, false, cond, bytes_eq, List, [], ◌∷◌, ◌++◌}
use Rattle.std.proofs.Common.{length, Option, Some, None, IsSome}
use Rattle.std.proofs.Common.{option_map, Result, Ok, Err, refl, sym, ap, ◌∙◌, subst, arith}
use Rattle.std.specs.List.{insert, remove}
use Rattle.std.specs.Option.{option_map_or}
use Rattle.std.specs.Prelude.{option_and_then}
use Rattle.tinyjson.proofs.Callers.{find_put, find_put_same, sorted_put, members_from_find, nth_with_nth}
use Rattle.tinyjson.specs.Index.{nth, with_nth}
use Rattle.tinyjson.specs.Soundness.{IsTree, IsSorted}
use Rattle.tinyjson.specs.Tree.{Tree, null, array, object, Items, no_items, item, Members, no_members, member, find, put}
use Rattle.tinyjson.specs.View.{view, items_view}
use Rattle.tinyjson.specs.declared.value.JsonValue.{JsonValue}
use Rattle.tinyjson_pointer.proofs.Replacing.{step_back}
use Rattle.tinyjson_pointer.specs.Change.{with_item_before, without_nth, with_child, without_child, changed_at, all_but_last, last_of}
use Rattle.tinyjson_pointer.specs.Change.{with_new_part, without_part, Inserts, Removes}
use Rattle.tinyjson_pointer.specs.Index.{index_of}
use Rattle.tinyjson_pointer.specs.Walk.{step, item_of, with_item_of, with_step, part_at, with_part}
use Rattle.tinyjson_pointer.specs.declared.change.InsertError.{InsertError}
use Rattle.tinyjson_pointer.specs.declared.change.InsertError.TheVariants.{NoPlace, OutOfMemory}

-- ---- a part of a sound tree is sound

found_sound : (ms : Members) (k : List ℕ) (u : Tree) → IsTree (object ms) → find k ms ≡ Some u → IsTree u
found_sound no_members k u s h = cc
found_sound (member l t ms) k u s h = by (bytes_eq k l) h (found_sound ms k u (s.0.2, s.1.1))
  where
    by : (b : Bool) → cond b (Some t) (find k ms) ≡ Some u → (find k ms ≡ Some u → IsTree u) → IsTree u
    by true e later = let same : t ≡ u = cc in subst IsTree same s.0.1
    by false e later = later e

item_sound : (ts : Items) (i : ℕ) (u : Tree) → IsTree (array ts) → nth ts i ≡ Some u → IsTree u
item_sound no_items i u s h = cc
item_sound (item t ts) zero u s h = let same : t ≡ u = cc in subst IsTree same s.0
item_sound (item t ts) (suc i) u s h = item_sound ts i u s.1 h

step_sound : (t : Tree) (k : List ℕ) (u : Tree) → IsTree t → step t k ≡ Some u → IsTree u
step_sound (object ms) k u s h = found_sound ms k u s h
step_sound (array ts) k u s h = by (index_of k) h
  where
    by : (o : Option ℕ) → item_of ts o ≡ Some u → IsTree u
    by None e = cc
    by (Some i) e = item_sound ts i u s e
step_sound _ k u s h = cc

-- ---- after a part was put in the place of another

step_put : (t : Tree) (k : List ℕ) (p q : Tree) → step t k ≡ Some p → step (with_step t k q) k ≡ Some q
step_put (object ms) k p q h = find_put_same k q ms
step_put (array ts) k p q h = by (index_of k) h
  where
    by : (o : Option ℕ) → item_of ts o ≡ Some p → item_of (with_item_of ts o q) o ≡ Some q
    by None e = cc
    by (Some i) e = nth_with_nth ts i q p e
step_put _ k p q h = cc

same_cond : (b : Bool) (q w : Tree) (o : Option Tree) → cond b (Some w) (cond b (Some q) o) ≡ cond b (Some w) o
same_cond true q w o = refl
same_cond false q w o = refl

pub put_again : (k : List ℕ) (q w : Tree) (ms : Members) → IsSorted ms → put k w (put k q ms) ≡ put k w ms
put_again k q w ms s =
    members_from_find (put k w (put k q ms)) (put k w ms) (sorted_put k w (put k q ms) (sorted_put k q ms s)) (sorted_put k w ms s)
    (λ x. find_put x k w (put k q ms) ∙ (ap (cond (bytes_eq x k) (Some w)) (find_put x k q ms)
    ∙ (same_cond (bytes_eq x k) q w (find x ms) ∙ sym (find_put x k w ms))))

pub with_nth_again : (ts : Items) (i : ℕ) (q w : Tree) → with_nth (with_nth ts i q) i w ≡ with_nth ts i w
with_nth_again no_items i q w = refl
with_nth_again (item t ts) zero q w = refl
with_nth_again (item t ts) (suc i) q w = ap (item t) (with_nth_again ts i q w)

item_again : (ts : Items) (o : Option ℕ) (q w : Tree) → with_item_of (with_item_of ts o q) o w ≡ with_item_of ts o w
item_again ts None q w = refl
item_again ts (Some i) q w = with_nth_again ts i q w

step_again : (t : Tree) (k : List ℕ) (q w : Tree) → IsTree t → with_step (with_step t k q) k w ≡ with_step t k w
step_again (object ms) k q w s = ap object (put_again k q w ms s.1)
step_again (array ts) k q w s = ap array (item_again ts (index_of k) q w)
step_again _ k q w s = refl

with_part_step : (t p : Tree) (k : List ℕ) (ks : List (List ℕ)) (u : Tree) → step t k ≡ Some p
    → with_part t (k ∷ ks) u ≡ with_step t k (with_part p ks u)
with_part_step t p k ks u e = ap (λ o. option_map_or (λ r. with_step t k (with_part r ks u)) o t) e

-- a part of the part that the tokens name is put in
pub with_last : (js : List (List ℕ)) (t c old u : Tree) (k : List ℕ) → part_at t js ≡ Some c → step c k ≡ Some old
    → with_part t (js ++ k ∷ []) u ≡ with_part t js (with_step c k u)
with_last [] t c old u k h e =
    let same : t ≡ c = cc in
    subst (λ x. with_part t (k ∷ []) u ≡ with_step x k u) same
    (with_part_step t old k [] u (subst (λ x. step x k ≡ Some old) (sym same) e))
with_last (j ∷ js) t c old u k h e = by (step t j) refl h (λ p g. with_last js p c old u k g e)
  where
    by : (o : Option Tree) → step t j ≡ o → option_and_then (λ p. part_at p js) o ≡ Some c
        → ((p : Tree) → part_at p js ≡ Some c → with_part p (js ++ k ∷ []) u ≡ with_part p js (with_step c k u))
        → with_part t (j ∷ (js ++ k ∷ [])) u ≡ with_part t (j ∷ js) (with_step c k u)
    by None f g later = cc
    by (Some p) f g later =
        with_part_step t p j (js ++ k ∷ []) u f
        ∙ (ap (with_step t j) (later p g) ∙ sym (with_part_step t p j js (with_step c k u) f))

pub part_put : (ks : List (List ℕ)) (t u x : Tree) → part_at t ks ≡ Some x → part_at (with_part t ks u) ks ≡ Some u
part_put [] t u x h = refl
part_put (k ∷ ks) t u x h = by (step t k) refl h (λ p g. part_put ks p u x g)
  where
    by : (o : Option Tree) → step t k ≡ o → option_and_then (λ p. part_at p ks) o ≡ Some x
        → ((p : Tree) → part_at p ks ≡ Some x → part_at (with_part p ks u) ks ≡ Some u)
        → part_at (with_part t (k ∷ ks) u) (k ∷ ks) ≡ Some u
    by None e g later = cc
    by (Some p) e g later =
        ap (λ r. part_at r (k ∷ ks)) (with_part_step t p k ks u e)
        ∙ (ap (option_and_then (λ r. part_at r ks)) (step_put t k p (with_part p ks u) e) ∙ later p g)

pub part_again : (ks : List (List ℕ)) (t u w x : Tree) → IsTree t → part_at t ks ≡ Some x
    → with_part (with_part t ks u) ks w ≡ with_part t ks w
part_again [] t u w x s h = refl
part_again (k ∷ ks) t u w x s h = by (step t k) refl h (λ p sound g. part_again ks p u w x sound g)
  where
    by : (o : Option Tree) → step t k ≡ o → option_and_then (λ p. part_at p ks) o ≡ Some x
        → ((p : Tree) → IsTree p → part_at p ks ≡ Some x → with_part (with_part p ks u) ks w ≡ with_part p ks w)
        → with_part (with_part t (k ∷ ks) u) (k ∷ ks) w ≡ with_part t (k ∷ ks) w
    by None e g later = cc
    by (Some p) e g later =
        let q : Tree = with_part p ks u in
        ap (λ r. with_part r (k ∷ ks) w) (with_part_step t p k ks u e)
        ∙ (with_part_step (with_step t k q) q k ks w (step_put t k p q e)
        ∙ (step_again t k q (with_part q ks w) s
        ∙ (ap (with_step t k) (later p (step_sound t k p s e) g) ∙ sym (with_part_step t p k ks w e))))

pub part_back : (ks : List (List ℕ)) (t x : Tree) → IsTree t → part_at t ks ≡ Some x → with_part t ks x ≡ t
part_back [] t x s h = cc
part_back (k ∷ ks) t x s h = by (step t k) refl h (λ p sound g. part_back ks p x sound g)
  where
    by : (o : Option Tree) → step t k ≡ o → option_and_then (λ p. part_at p ks) o ≡ Some x
        → ((p : Tree) → IsTree p → part_at p ks ≡ Some x → with_part p ks x ≡ p) → with_part t (k ∷ ks) x ≡ t
    by None e g later = cc
    by (Some p) e g later =
        with_part_step t p k ks x e ∙ (ap (with_step t k) (later p (step_sound t k p s e) g) ∙ step_back t k p s e)

-- ---- all tokens but the last, and the last

pub last_is : (j : List ℕ) (js : List (List ℕ)) (k : List ℕ) → last_of j (js ++ k ∷ []) ≡ k
last_is j [] k = refl
last_is j (i ∷ js) k = last_is i js k

pub rest_is : (j : List ℕ) (js : List (List ℕ)) (k : List ℕ) → all_but_last j (js ++ k ∷ []) ≡ j ∷ js
rest_is j [] k = refl
rest_is j (i ∷ js) k = ap (λ x. j ∷ x) (rest_is i js k)

pub new_part_at : (t : Tree) (js : List (List ℕ)) (k : List ℕ) (u : Tree)
    → with_new_part t (js ++ k ∷ []) u ≡ changed_at (λ part. with_child part k u) t js
new_part_at t [] k u = refl
new_part_at t (j ∷ js) k u =
    ap (λ l. changed_at (λ part. with_child part l u) t (all_but_last j (js ++ k ∷ []))) (last_is j js k)
    ∙ ap (changed_at (λ part. with_child part k u) t) (rest_is j js k)

pub without_part_at : (t : Tree) (js : List (List ℕ)) (k : List ℕ)
    → without_part t (js ++ k ∷ []) ≡ changed_at (λ part. without_child part k) t js
without_part_at t [] k = refl
without_part_at t (j ∷ js) k =
    ap (λ l. changed_at (λ part. without_child part l) t (all_but_last j (js ++ k ∷ []))) (last_is j js k)
    ∙ ap (changed_at (λ part. without_child part k) t) (rest_is j js k)

pub part_last : (js : List (List ℕ)) (t : Tree) (k : List ℕ) → part_at t (js ++ k ∷ []) ≡ option_and_then (λ c. step c k) (part_at t js)
part_last [] t k = by (step t k)
  where
    by : (o : Option Tree) → option_and_then (λ u. part_at u []) o ≡ o
    by None = refl
    by (Some u) = refl
part_last (j ∷ js) t k = by (step t j) (λ u. part_last js u k)
  where
    by : (o : Option Tree) → ((u : Tree) → part_at u (js ++ k ∷ []) ≡ option_and_then (λ c. step c k) (part_at u js))
        → option_and_then (λ u. part_at u (js ++ k ∷ [])) o ≡ option_and_then (λ c. step c k) (option_and_then (λ u. part_at u js) o)
    by None later = refl
    by (Some u) later = later u

-- ---- the container c is taken out, which leaves t1, becomes e, and is put back

module _ (t c e t1 t2 : Tree) (js : List (List ℕ)) (s : IsTree t) (there : part_at t js ≡ Some c) (out : t1 ≡ with_part t js null)
    (back : IsSome (part_at t1 js) → t2 ≡ with_part t1 js e) where
  pub is_back : t2 ≡ with_part t js e
  is_back =
      back (subst IsSome (sym (ap (λ r. part_at r js) out ∙ part_put js t null c there)) refl)
      ∙ (ap (λ r. with_part r js e) out ∙ part_again js t null e c s there)

  pub unchanged : e ≡ c → t2 ≡ t
  unchanged same = is_back ∙ (ap (with_part t js) same ∙ part_back js t c s there)

  changes : (f : Tree → Option Tree) → changed_at f t js ≡ option_map (with_part t js) (f c)
  changes f = ap (option_and_then (λ part. option_map (with_part t js) (f part))) there

  changed : (f : Tree → Option Tree) → f c ≡ Some e → changed_at f t js ≡ Some t2
  changed f h = changes f ∙ (ap (option_map (with_part t js)) h ∙ ap Some (sym is_back))

  not_changed : (f : Tree → Option Tree) → f c ≡ None → changed_at f t js ≡ None
  not_changed f h = changes f ∙ ap (option_map (with_part t js)) h

  pub inserts_in : (k : List ℕ) (u : Tree) (r : Result (Unit {0}) InsertError) → Inserts (with_child c k u) c r e
      → Inserts (with_new_part t (js ++ k ∷ []) u) t r t2
  inserts_in k u (Ok x) h = new_part_at t js k u ∙ changed (λ part. with_child part k u) h
  inserts_in k u (Err NoPlace) h = (new_part_at t js k u ∙ not_changed (λ part. with_child part k u) h.0, unchanged h.1)
  inserts_in k u (Err OutOfMemory) h = unchanged h

  pub removes_in : (k : List ℕ) (r : Option JsonValue) → Removes (step c k) (without_child c k) c r e
      → Removes (part_at t (js ++ k ∷ [])) (without_part t (js ++ k ∷ [])) t r t2
  removes_in k None h = (without_part_at t js k ∙ not_changed (λ part. without_child part k) h.0, unchanged h.1)
  removes_in k (Some old) h = (
    part_last js t k ∙ (ap (option_and_then (λ x. step x k)) there ∙ h.0),
    without_part_at t js k ∙ changed (λ part. without_child part k) h.1,
  )

-- where there is no container, there is nothing to change
pub no_container : (f : Tree → Option Tree) (t : Tree) (js : List (List ℕ)) → part_at t js ≡ None → changed_at f t js ≡ None
no_container f t js h = ap (option_and_then (λ part. option_map (with_part t js) (f part))) h

pub no_new_part : (t : Tree) (js : List (List ℕ)) (k : List ℕ) (u : Tree) → part_at t js ≡ None
    → with_new_part t (js ++ k ∷ []) u ≡ None
no_new_part t js k u h = new_part_at t js k u ∙ no_container (λ part. with_child part k u) t js h

pub nothing_without : (t : Tree) (js : List (List ℕ)) (k : List ℕ) → part_at t js ≡ None → without_part t (js ++ k ∷ []) ≡ None
nothing_without t js k h = without_part_at t js k ∙ no_container (λ part. without_child part k) t js h

-- ---- the items of an array

pub items_inserted : (vs : List JsonValue) (i : ℕ) (v : JsonValue) → i ≤ length vs
    → with_item_before (items_view vs) i (view v) ≡ Some (items_view (insert vs i v))
items_inserted [] zero v h = refl
items_inserted [] (suc i) v h = absurd (omega arith)
items_inserted (w ∷ vs) zero v h = refl
items_inserted (w ∷ vs) (suc i) v h = ap (option_map (item (view w))) (items_inserted vs i v (omega arith))

pub none_inserted : (vs : List JsonValue) (i : ℕ) (u : Tree) → length vs < i → with_item_before (items_view vs) i u ≡ None
none_inserted [] zero u h = absurd (omega arith)
none_inserted [] (suc i) u h = refl
none_inserted (w ∷ vs) zero u h = absurd (omega arith)
none_inserted (w ∷ vs) (suc i) u h = ap (option_map (item (view w))) (none_inserted vs i u (omega arith))

pub items_removed : (vs : List JsonValue) (i : ℕ) → i < length vs → without_nth (items_view vs) i ≡ items_view (remove vs i)
items_removed [] i h = absurd (omega arith)
items_removed (w ∷ vs) zero h = refl
items_removed (w ∷ vs) (suc i) h = ap (item (view w)) (items_removed vs i (omega arith))
