-- Operations in turn, and operations on the items of one array.
use Rattle.std.proofs.Common.{◌≡◌, ◌≤◌, ◌-◌, ℕ, suc, Bool, true, List, [], ◌∷◌, length, map, IsSome, Result, Ok, Err}
use Rattle.std.proofs.Common.{refl, sym, ap, ◌∙◌, subst, arith}
use Rattle.std.specs.Borrow.{Bor}
use Rattle.std.specs.Box.{box_value}
use Rattle.std.specs.declared.alloc.Global.{Global}
use Rattle.std.specs.declared.boxed.Box.{Box}
use Rattle.tinyjson.specs.Soundness.{IsTree}
use Rattle.tinyjson.specs.Tree.{Tree, array}
use Rattle.tinyjson.specs.View.{items_view}
use Rattle.tinyjson.specs.declared.value.JsonValue.{JsonValue}
use Rattle.tinyjson_pointer.proofs.Callers.{container_back, container_put}
use Rattle.tinyjson_pointer.specs.Siblings.{container_at, with_container, IsTaken}
use Rattle.tinyjson_patch.specs.Operation.{Action, action_of, applied}
use Rattle.tinyjson_patch.specs.Patch.{after, all_applied, RunsAll}
use Rattle.tinyjson_patch.specs.Running.{last_applied, with_items, with_boxes, is_among, AppliesAmong, Follows, RunsFirst}
use Rattle.tinyjson_patch.specs.declared.operation.Operation.{Operation}
use Rattle.tinyjson_patch.specs.declared.operation.OperationError.TheVariants as one
use Rattle.tinyjson_patch.specs.declared.operation.Reason.{Reason}
use Rattle.tinyjson_patch.specs.declared.patch.ApplyError.{ApplyError}
use Rattle.tinyjson_patch.specs.declared.patch.ApplyError.TheVariants.{Failed, OutOfMemory}

-- ---- in turn

pub as_many : (os : List Operation) → length (map action_of os) ≡ length os
as_many [] = refl
as_many (o ∷ os) = ap suc (as_many os)

pub all_left : (os : List Operation) (t : Tree) → last_applied (length os) (map action_of os) t ≡ all_applied 0 (map action_of os) t
all_left os t = ap (λ n. all_applied n (map action_of os) t) (none (length (map action_of os)) (length os) (as_many os))
  where
    none : (m n : ℕ) → m ≡ n → n - m ≡ 0
    none m n e = omega (arith, e)

pub one_applied : (total : ℕ) (o : Operation) (os : List Operation) (t t' : Tree) → suc (length os) ≤ total
    → applied (action_of o) t ≡ Ok t' → last_applied total (map action_of (o ∷ os)) t ≡ last_applied total (map action_of os) t'
one_applied total o os t t' h e =
    let n = total - suc (length (map action_of os)) in
    ap (λ r. after n r (λ u. all_applied (suc n) (map action_of os) u)) e
    ∙ ap (λ m. all_applied m (map action_of os) t') (next (length (map action_of os)) (subst (λ m. suc m ≤ total) (sym (as_many os)) h))
  where
    next : (m : ℕ) → suc m ≤ total → suc (total - suc m) ≡ total - m
    next m g = omega (arith, g)

pub one_failed : (total n : ℕ) (o : Operation) (os : List Operation) (t : Tree) (r : Reason) → n ≡ total - suc (length os)
    → applied (action_of o) t ≡ Err r → last_applied total (map action_of (o ∷ os)) t ≡ Err (n, r)
one_failed total n o os t r same e =
    let m = total - suc (length (map action_of os)) in
    ap (λ x. after m x (λ u. all_applied (suc m) (map action_of os) u)) e
    ∙ ap (λ k. Err (k, r)) (ap (λ k. total - suc k) (as_many os) ∙ sym same)

-- ---- some are left

-- What is left of all operations makes of the tree with an array of the items ws what all make of it with vs.
abbrev pub Remains : ℕ → List Operation → List Operation → List (List ℕ) → (vs ws : List (Box JsonValue Global)) → Type 0
Remains total all rest ks vs ws =
    (length rest ≤ length all)
    × ((t : Tree) → IsTree t → IsSome (container_at t ks)
    → last_applied total (map action_of all) (with_boxes t ks vs) ≡ last_applied total (map action_of rest) (with_boxes t ks ws))

module _ (total : ℕ) (all rest others : List Operation) (o : Operation) (ks : List (List ℕ)) (vs ws : List (Box JsonValue Global))
    (fits : length all ≤ total) (split : rest ≡ o ∷ others) (left : Remains total all rest ks vs ws) (b : Bool)
    (same : b ≡ is_among ks (action_of o)) (among : b ≡ true) where
  one_less : length rest ≡ suc (length others)
  one_less = ap length split

  first_of : (t : Tree) → IsTree t → IsSome (container_at t ks)
      → last_applied total (map action_of all) (with_boxes t ks vs) ≡ last_applied total (map action_of (o ∷ others)) (with_boxes t ks ws)
  first_of t s there = left.1 t s there ∙ ap (λ os. last_applied total (map action_of os) (with_boxes t ks ws)) split

  pub remains_after : (us : List (Box JsonValue Global)) → AppliesAmong (action_of o) ws (Ok tt) us → Remains total all others ks vs us
  remains_after us h = (
    omega (arith, one_less, left.0),
    λ t s there.
        first_of t s there
        ∙ one_applied total o others (with_boxes t ks ws) (with_boxes t ks us) (omega (arith, one_less, left.0, fits))
        (h t ks s there (sym same ∙ among)),
  )

  pub remains_failed : (us : List (Box JsonValue Global)) (r : Reason) → AppliesAmong (action_of o) ws (Err (one.Failed r)) us
      → (t : Tree) → IsTree t → IsSome (container_at t ks)
      → last_applied total (map action_of all) (with_boxes t ks vs) ≡ Err (total - length rest, r)
  remains_failed us r h t s there =
      first_of t s there
      ∙ one_failed total (total - length rest) o others (with_boxes t ks ws) r (ap (λ n. total - n) one_less)
      (h t ks s there (sym same ∙ among))

pub remains_told : (total : ℕ) (all rest : List Operation) (ks : List (List ℕ)) (vs ws : List (Box JsonValue Global))
    → Remains total all rest ks vs ws → (t : Tree) → IsTree t → IsSome (container_at t ks)
    → (length rest ≤ length (map action_of all))
    × (last_applied total (map action_of all) (with_boxes t ks vs) ≡ last_applied total (map action_of rest) (with_boxes t ks ws))
remains_told total all rest ks vs ws left t s there =
    (subst (λ n. length rest ≤ n) (sym (as_many all)) left.0, left.1 t s there)

-- ---- the whole run

pub all_remain : (total : ℕ) (os : List Operation) (t t' : Tree) → t' ≡ t
    → (length os ≤ length (map action_of os)) × (last_applied total (map action_of os) t ≡ last_applied total (map action_of os) t')
all_remain total os t t' e = (omega (arith, as_many os), ap (last_applied total (map action_of os)) (sym e))

pub beside_run : (total : ℕ) (actions : List Action) (t t1 t2 : Tree) (ks : List (List ℕ)) (vs ws : List JsonValue)
    (bs cs : List (Box JsonValue Global)) (r : Result (Bor (List Operation)) ApplyError) → IsTree t
    → IsTaken t ks (array (items_view vs)) t1 → (IsSome (container_at t1 ks) → t2 ≡ with_container t1 ks (array (items_view ws)))
    → map box_value bs ≡ vs → ws ≡ map box_value cs
    → ((s : Tree) → IsTree s → IsSome (container_at s ks) → RunsFirst total actions (with_boxes s ks bs) r (with_boxes s ks cs))
    → RunsFirst total actions t r t2
beside_run total actions t t1 t2 ks vs ws bs cs r sound out put boxed unboxed told =
    let h : (s : Tree) → IsTree s → IsSome (container_at s ks) → RunsFirst total actions (with_items s ks vs) r (with_items s ks ws)
    = λ s k there. subst (λ us. RunsFirst total actions (with_items s ks us) r (with_items s ks ws)) boxed
    (subst (λ us. RunsFirst total actions (with_items s ks (map box_value bs)) r (with_items s ks us)) (sym unboxed) (told s k there)) in
    let back : with_items t ks vs ≡ t = container_back t (array (items_view vs)) ks sound out.0 in
    let there : t2 ≡ with_items t ks ws =
    container_put t (array (items_view vs)) (array (items_view ws)) t1 t2 ks sound out.0 out.1 put in
    subst (λ x. RunsFirst total actions x r t2) back
    (subst (RunsFirst total actions (with_items t ks vs) r) (sym there) (h t sound (subst IsSome (sym out.0) refl)))

pub run_begins : (total : ℕ) (os rest : List Operation) (t : Tree) → total ≡ length os → rest ≡ os
    → (length rest ≤ total) × (last_applied total (map action_of rest) t ≡ all_applied 0 (map action_of os) t)
run_begins total os rest t n e =
    let same : length rest ≡ length os = ap length e in (
      omega (arith, same, n),
      ap (λ xs. last_applied total (map action_of xs) t) e
          ∙ (ap (λ m. last_applied m (map action_of os) t) n ∙ all_left os t),
    )

module _ (total : ℕ) (rest others : List Operation) (o : Operation) (t : Tree) (x : Result Tree (ℕ × Reason))
    (split : rest ≡ o ∷ others) (fits : length rest ≤ total) (left : last_applied total (map action_of rest) t ≡ x) where
  first : last_applied total (map action_of (o ∷ others)) t ≡ x
  first = ap (λ os. last_applied total (map action_of os) t) (sym split) ∙ left

  few : suc (length others) ≤ total
  few = let n : length rest ≡ suc (length others) = ap length split in omega (arith, n, fits)

  pub fewer : length others ≤ total
  fewer = omega (arith, few)

  pub run_failed : (n : ℕ) (r : Reason) → n ≡ total - length rest → applied (action_of o) t ≡ Err r → x ≡ Err (n, r)
  run_failed n r same e =
      sym first ∙ one_failed total n o others t r (same ∙ ap (λ m. total - m) (ap length split)) e

  pub run_on : (rest' : List Operation) (t1 t2 : Tree) → applied (action_of o) t ≡ Ok t1
      → (length rest' ≤ length (map action_of others))
      × (last_applied total (map action_of others) t1 ≡ last_applied total (map action_of rest') t2)
      → (length rest' ≤ total) × (last_applied total (map action_of rest') t2 ≡ x)
  run_on rest' t1 t2 e h =
      (omega (arith, h.0, as_many others, few), sym h.1 ∙ (sym (one_applied total o others t t1 few e) ∙ first))

  pub run_ended : (t1 : Tree) (n : ℕ) (r : Reason) → applied (action_of o) t ≡ Ok t1
      → last_applied total (map action_of others) t1 ≡ Err (n, r) → x ≡ Err (n, r)
  run_ended t1 n r e h = sym first ∙ (one_applied total o others t t1 few e ∙ h)

  pub stopped_at : (e : ApplyError) (t1 : Tree) → Follows (total - length rest) (applied (action_of o) t) (Err e) t1
      → RunsAll x (Err e) t1
  stopped_at (Failed n r) t1 h = run_failed n r h.0 h.1
  stopped_at OutOfMemory t1 h = h

  pub stopped_beside : (e : ApplyError) (t1 t2 : Tree) → applied (action_of o) t ≡ Ok t1
      → RunsFirst total (map action_of others) t1 (Err e) t2 → RunsAll x (Err e) t2
  stopped_beside (Failed n r) t1 t2 done h = run_ended t1 n r done h
  stopped_beside OutOfMemory t1 t2 done h = h

pub run_over : (total : ℕ) (rest : List Operation) (t : Tree) (x : Result Tree (ℕ × Reason)) → length rest ≡ 0
    → last_applied total (map action_of rest) t ≡ x → x ≡ Ok t
run_over total [] t x n left = sym left
run_over total (o ∷ os) t x n left = absurd (omega arith)
