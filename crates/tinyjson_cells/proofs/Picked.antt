-- As many members as there are, picked from them, whose keys rise: they are those members in order.
use Rattle.std.proofs.Common.{◌≡◌, ℕ, zero, suc, ◌<◌, Bool, true, false, cond, not, ◌&&◌, ◌⊎◌, List, [], ◌∷◌, length, get_or}
use Rattle.std.proofs.Common.{refl, sym, ◌∙◌, ap, subst, inl, inr, ⊎_elim, true≢false, arith}
use Rattle.std.specs.Prelude.{⊤}
use Rattle.std.specs.List.{filter, All, Contains, remove}
use Rattle.std.specs.List.Sorted.{IsPermutation, IsStableBy, ties}
use Rattle.std.specs.Cmp.{IsStrictWeakOrder}
use Rattle.std.proofs.lemmas.Bool.{and_parts}
use Rattle.std.proofs.lemmas.List.{nil_from_length}
use Rattle.std.proofs.lemmas.List.Elements.{All-nil, All-cons, All-head, All-tail, All-weaker, All-filter, filter_passes}
use Rattle.std.proofs.lemmas.List.Sorted.{IsPermutation-refl, IsPermutation-sym, IsPermutation-trans, IsPermutation-cons}
use Rattle.std.proofs.lemmas.List.Sorted.{IsPermutation-remove, All-permutation, Contains-permutation}
use Rattle.std.proofs.lemmas.List.Sorted.{length_permutation, sum_by-IsPermutation}
use Rattle.std.proofs.lemmas.List.Sums.{length-filter}
use Rattle.std.proofs.lemmas.Cmp.{nat_list_cmp_total}
use Rattle.std.proofs.lemmas.List.MinMax.{ranks_by}
use Rattle.tinyjson_cells.specs.Order.{IsOrdered, key_in, key_lt, is_below_next, lasts, rise}
use Rattle.tinyjson_cells.specs.declared.store.Member.{Member}
use Rattle.tinyjson_cells.specs.declared.texts.Texts.{Texts}
use Rattle.tinyjson_cells.proofs.Rising.{rise_lasts, rise_sorted}

module _ {X : Type 0} where
  first_or_later : (x y : X) (xs : List X) → Contains (x ∷ xs) y → (x ≡ y) ⊎ Contains xs y
  first_or_later x y xs h = by h.0 h.1 h.2
    where
      by : (i : ℕ) → i < length (x ∷ xs) → get_or (x ∷ xs) i y ≡ y → (x ≡ y) ⊎ Contains xs y
      by zero l e = inl e
      by (suc i) l e = inr (i, omega arith, e)

  only : (x y : X) → Contains (x ∷ []) y → x ≡ y
  only x y h = ⊎_elim (λ e. e) (λ k. let l = k.1 in absurd (omega arith)) (first_or_later x y [] h)

  single : (xs : List X) → length xs ≡ 1 → (x : X) × (xs ≡ x ∷ [])
  single [] e = absurd (omega arith)
  single (x ∷ xs) e = (x, ap (λ z. x ∷ z) (nil_from_length xs (omega arith)))

  -- ---- the elements that pass a test

  module _ (p : X → Bool) where
    none_pass : (xs : List X) → All (λ y. p y ≡ false) xs → filter p xs ≡ []
    none_pass [] h = refl
    none_pass (x ∷ xs) h = ap (λ b. cond b (x ∷ filter p xs) (filter p xs)) (All-head (λ y. p y ≡ false) x xs h)
        ∙ none_pass xs (All-tail (λ y. p y ≡ false) x xs h)

    kept : (b : Bool) (x y : X) (ys : List X) → Contains ys y → Contains (cond b (x ∷ ys) ys) y
    kept true x y ys h = let l = h.1 in (suc h.0, omega arith, h.2)
    kept false x y ys h = h

    abbrev IsKept : List X → X → Type 0
    IsKept ys y = p y ≡ true → Contains ys y

    all_kept : (xs : List X) → All (IsKept (filter p xs)) xs
    all_kept [] = All-nil (IsKept [])
    all_kept (x ∷ xs) =
        let ys = filter p xs in
        All-cons (IsKept (filter p (x ∷ xs))) x xs
        (λ e. subst (λ b. Contains (cond b (x ∷ ys) ys) x) (sym e) (0, omega arith, refl))
        (All-weaker (IsKept ys) (IsKept (filter p (x ∷ xs))) (λ y h e. kept (p x) x y ys (h e)) xs (all_kept xs))

    same_length : (ms ks : List X) → IsPermutation ms ks → length (filter p ms) ≡ length (filter p ks)
    same_length ms ks h = length-filter p ms ∙ sym (sum_by-IsPermutation (λ x. cond (p x) 1 0) ms ks h) ∙ sym (length-filter p ks)

    same_one : (ms ks : List X) (y : X) → IsPermutation ms ks → filter p ks ≡ y ∷ [] → filter p ks ≡ filter p ms
    same_one ms ks y h e =
        let z = single (filter p ms) (same_length ms ks h ∙ ap length e) in
        let Q = IsKept (filter p ks) in
        let all : All Q (filter p ms) = All-filter p Q ms (All-permutation Q ks ms (IsPermutation-sym ms ks h) (all_kept ks)) in
        let passes : p z.0 ≡ true = All-head (λ x. p x ≡ true) z.0 [] (subst (All (λ x. p x ≡ true)) z.1 (filter_passes p ms)) in
        let there : Contains (filter p ks) z.0 = All-head Q z.0 [] (subst (All Q) z.1 all) passes in
        e ∙ ap (λ x. x ∷ []) (only y z.0 (subst (λ l. Contains l z.0) e there)) ∙ sym z.1

    same_passing : (ms ks : List X) → IsPermutation ms ks → (filter p ks ≡ []) ⊎ ((y : X) × (filter p ks ≡ y ∷ []))
        → filter p ks ≡ filter p ms
    same_passing ms ks h c = ⊎_elim
        (λ e. e ∙ sym (nil_from_length (filter p ms) (same_length ms ks h ∙ ap length e)))
        (λ k. same_one ms ks k.0 h k.1) c

-- ---- each element is below those after it

module _ {X : Type 0} (lt : X → X → Bool) (o : IsStrictWeakOrder lt) where
  abbrev pub Strict : List X → Type 0
  Strict [] = ⊤
  Strict (x ∷ xs) = All (λ y. lt x y ≡ true) xs × Strict xs

  pub still_below : (x y z : X) → lt x y ≡ true → lt y z ≡ true → lt x z ≡ true
  still_below x y z a b = by (lt x z) refl
    where
      by : (c : Bool) → lt x z ≡ c → c ≡ true
      by true e = refl
      by false e = absurd (true≢false (sym a ∙ o.chain x z y e (o.one_way y z b)))

  unlike : (x y : X) → lt x y ≡ true → x ≡ y → ⊥
  unlike x y h e = true≢false (sym h ∙ subst (λ z. lt z y ≡ false) (sym e) (o.one_way y y (subst (λ z. lt z y ≡ true) e h)))

  -- elements of a list, each once and as many as there are
  pub picked_permuted : (ms ks : List X) → Strict ks → length ks ≡ length ms → All (Contains ms) ks → IsPermutation ms ks
  picked_permuted ms [] s e c = subst (λ z. IsPermutation z []) (sym (nil_from_length ms (sym e))) (IsPermutation-refl [])
  picked_permuted ms (k ∷ ks) s e c =
      let at : Contains ms k = All-head (Contains ms) k ks c in
      let rest = remove ms at.0 in
      let first : IsPermutation ms (k ∷ rest) = IsPermutation-remove ms at.0 k at.1 (sym at.2) in
      let long = length_permutation ms (k ∷ rest) first in
      let later = λ (y : X) (l : lt k y ≡ true) (h : Contains ms y).
      ⊎_elim (λ (q : k ≡ y). absurd (unlike k y l q)) (λ (q : Contains rest y). q)
      (first_or_later k y rest (Contains-permutation ms (k ∷ rest) y first h)) in
      IsPermutation-trans _ _ _ first (IsPermutation-cons k rest ks
      (picked_permuted rest ks s.1 (omega (arith, long, e))
      (λ j d l. later (get_or ks j d) (s.0 j d l) (All-tail (Contains ms) k ks c j d l))))

  no_further_tie : (x m n : X) → ties lt x m ≡ true → lt m n ≡ true → ties lt x n ≡ false
  no_further_tie x m n t l = by (lt x n) (lt n x) refl refl
    where
      untrue : (b : Bool) → not b ≡ true → b ≡ false
      untrue true h = absurd (true≢false (sym h))
      untrue false h = refl

      by : (a b : Bool) → lt x n ≡ a → lt n x ≡ b → ties lt x n ≡ false
      by true b e f = ap (λ z. not z && not (lt n x)) e
      by false true e f = ap (λ z. not z && not (lt n x)) e ∙ ap not f
      by false false e f = absurd (true≢false (sym l ∙ o.chain m x n (untrue (lt m x) (and_parts (not (lt x m)) (not (lt m x)) t).1) e))

  one_tie : (x : X) (ks : List X) → Strict ks → (filter (ties lt x) ks ≡ []) ⊎ ((y : X) × (filter (ties lt x) ks ≡ y ∷ []))
  one_tie x [] s = inl refl
  one_tie x (k ∷ ks) s = by (ties lt x k) refl (one_tie x ks s.1)
    where
      by : (b : Bool) → ties lt x k ≡ b → (filter (ties lt x) ks ≡ []) ⊎ ((y : X) × (filter (ties lt x) ks ≡ y ∷ []))
          → (filter (ties lt x) (k ∷ ks) ≡ []) ⊎ ((y : X) × (filter (ties lt x) (k ∷ ks) ≡ y ∷ []))
      by true e later = inr (
        k,
        ap (λ b. cond b (k ∷ filter (ties lt x) ks) (filter (ties lt x) ks)) e
            ∙ ap (λ z. k ∷ z) (none_pass (ties lt x) ks (All-weaker (λ y. lt k y ≡ true) (λ y. ties lt x y ≡ false)
            (λ y l. no_further_tie x k y e l) ks s.0)),
      )
      by false e later =
          let skip = ap (λ b. cond b (k ∷ filter (ties lt x) ks) (filter (ties lt x) ks)) e in
          ⊎_elim (λ h. inl (skip ∙ h)) (λ h. inr (h.0, skip ∙ h.1)) later

  pub picked_stable : (ms ks : List X) → IsPermutation ms ks → Strict ks → IsStableBy lt ms ks
  picked_stable ms ks h s x = same_passing (ties lt x) ms ks h (one_tie x ks s)

-- ---- members whose keys rise

module _ (xs : Texts) where
  order : IsStrictWeakOrder (key_lt xs)
  order = ranks_by nat_list_cmp_total (key_in xs)

  below_all : (m : Member) (ms : List Member) → is_below_next xs m ms ≡ true → rise xs ms ≡ true → All (λ n. key_lt xs m n ≡ true) ms
  below_all m [] b h = All-nil (λ n. key_lt xs m n ≡ true)
  below_all m (n ∷ ns) b h =
      let p = and_parts (is_below_next xs n ns) (rise xs ns) h in
      All-cons (λ z. key_lt xs m z ≡ true) n ns b
      (All-weaker (λ z. key_lt xs n z ≡ true) (λ z. key_lt xs m z ≡ true) (λ z l. still_below (key_lt xs) order m n z b l) ns
      (below_all n ns p.0 p.1))

  rise_strict : (ms : List Member) → rise xs ms ≡ true → Strict (key_lt xs) order ms
  rise_strict [] h = tt
  rise_strict (m ∷ ms) h =
      let p = and_parts (is_below_next xs m ms) (rise xs ms) h in
      (below_all m ms p.0 p.1, rise_strict ms p.1)

  pub picked_ordered : (ms ks : List Member) → All (Contains ms) ks → length ks ≡ length ms → rise xs ks ≡ true
      → IsOrdered xs ms ks × (lasts xs ks ≡ ks)
  picked_ordered ms ks c e h =
      let s = rise_strict ks h in
      let permuted = picked_permuted (key_lt xs) order ms ks s e c in (
        record { permuted = permuted; sorted = rise_sorted xs ks h; stable = picked_stable (key_lt xs) order ms ks permuted s },
        rise_lasts xs ks h,
      )
