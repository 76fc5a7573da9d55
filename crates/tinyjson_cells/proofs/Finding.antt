-- The member with a key, where the keys rise: what a bisection finds.
use Rattle.std.proofs.Common.{◌≡◌, ◌≢◌, ℕ, ◌<◌, ◌≤◌, zero, suc, Bool, true, false, bytes_eq, cond, List, [], ◌∷◌, Some, None}
use Rattle.std.proofs.Common.{length, get_or, nat_lt, refl, sym, ◌∙◌, ap, subst, arith}
use Rattle.std.proofs.lemmas.Bool.{and_parts}
use Rattle.std.proofs.lemmas.Bool.Decides.{nat_tests}
use Rattle.std.proofs.lemmas.Cmp.{nat_list_cmp_total}
use Rattle.std.proofs.lemmas.Map.Lookups.{exact_bytes}
use Rattle.std.proofs.lemmas.Slice.Eq.{bytes_eq-Decides}
use Rattle.std.specs.Cmp.Lexicographic.{slice_cmp}
use Rattle.std.specs.List.Sorted.{IsNonDecreasingBy, IsPartitionPoint}
use Rattle.std.specs.Ordering.{is_lt, nat_cmp, ordering_index, ordering_reverse}
use Rattle.std.specs.Str.{encode_utf8_all}
use Rattle.std.specs.declared.cmp.Ordering.{Ordering}
use Rattle.std.specs.declared.cmp.Ordering.TheVariants.{Less, Equal, Greater}
use Rattle.tinyjson_cells.specs.declared.store.Member.{Member}
use Rattle.tinyjson_cells.specs.declared.texts.Texts.{Texts}
use Rattle.tinyjson_cells.specs.Order.{key_in, key_lt, is_below_next, rise, member_with}

abbrev enc : List ℕ → List ℕ
enc = encode_utf8_all

abbrev cmp : List ℕ → List ℕ → Ordering
cmp = slice_cmp nat_cmp

less_from : (o : Ordering) → is_lt o ≡ true → o ≡ Less
less_from Less h = refl
less_from Equal h = absurd cc
less_from Greater h = absurd cc

itself : (k : List ℕ) → cmp k k ≡ Equal
itself k = by (cmp k k) refl
  where
    by : (o : Ordering) → cmp k k ≡ o → o ≡ Equal
    by Less e = let f : Less ≡ Greater = sym e ∙ (nat_list_cmp_total.antisymm k k ∙ ap ordering_reverse e) in cc
    by Equal e = refl
    by Greater e = let f : Greater ≡ Less = sym e ∙ (nat_list_cmp_total.antisymm k k ∙ ap ordering_reverse e) in cc

differ : (a b : List ℕ) → cmp a b ≢ Equal → bytes_eq b a ≡ false
differ a b d = by (bytes_eq b a) refl
  where
    by : (c : Bool) → bytes_eq b a ≡ c → c ≡ false
    by false h = refl
    by true h = absurd (d (ap (cmp a) ((bytes_eq-Decides b a).0 h) ∙ itself a))

-- what is below is no more, beside the same
no_more : (a b k : List ℕ) → cmp a b ≡ Less → ordering_index (cmp a k) ≤ ordering_index (cmp b k)
no_more a b k l = by (cmp b k) refl
  where
    low : cmp a k ≡ Less → (n : ℕ) → ordering_index (cmp a k) ≤ n
    low e n = subst (λ o. ordering_index o ≤ n) (sym e) (omega arith)

    high : (o : Ordering) → ordering_index o ≤ 2
    high Less = omega arith
    high Equal = omega arith
    high Greater = omega arith

    by : (o : Ordering) → cmp b k ≡ o → ordering_index (cmp a k) ≤ ordering_index (cmp b k)
    by Less e = low (nat_list_cmp_total.trans a b k l e) _
    by Equal e = low (ap (cmp a) (sym (exact_bytes b k e)) ∙ l) _
    by Greater e = subst (λ o. ordering_index (cmp a k) ≤ ordering_index o) (sym e) (high (cmp a k))

module _ (xs : Texts) where
  -- a key is below all later ones
  below_later : (m : Member) (ms : List Member) → rise xs (m ∷ ms) ≡ true → (j : ℕ) (d : Member) → j < length ms
      → cmp (key_in xs m) (key_in xs (get_or ms j d)) ≡ Less
  below_later m [] h j d l = absurd (omega (arith, l))
  below_later m (n ∷ ms) h zero d l = less_from _ (and_parts (key_lt xs m n) (rise xs (n ∷ ms)) h).0
  below_later m (n ∷ ms) h (suc j) d l =
      let parts = and_parts (key_lt xs m n) (rise xs (n ∷ ms)) h in
      nat_list_cmp_total.trans (key_in xs m) (key_in xs n) _ (less_from _ parts.0) (below_later n ms parts.1 j d (omega (arith, l)))

  pub rises_beside : (k : List ℕ) (ms : List Member) → rise xs ms ≡ true
      → IsNonDecreasingBy (λ m. ordering_index (cmp (key_in xs m) k)) ms
  rises_beside k [] h i j d l b = absurd (omega (arith, b))
  rises_beside k (m ∷ ms) h zero zero d l b = omega arith
  rises_beside k (m ∷ ms) h zero (suc j) d l b = no_more (key_in xs m) _ k (below_later m ms h j d (omega (arith, b)))
  rises_beside k (m ∷ ms) h (suc i) zero d l b = absurd (omega (arith, l))
  rises_beside k (m ∷ ms) h (suc i) (suc j) d l b =
      rises_beside k ms (and_parts (is_below_next xs m ms) (rise xs ms) h).1 i j d (omega (arith, l)) (omega (arith, b))

  -- the member with the key is the first with it
  pub found_at : (k : List ℕ) (ms : List Member) → rise xs ms ≡ true → (i : ℕ) (d : Member) → i < length ms
      → cmp (key_in xs (get_or ms i d)) k ≡ Equal → member_with xs k ms ≡ Some (get_or ms i d)
  found_at k [] h i d l e = absurd (omega (arith, l))
  found_at k (m ∷ ms) h zero d l e =
      ap (λ b. cond b (Some m) (member_with xs k ms)) ((bytes_eq-Decides k (key_in xs m)).1 (sym (exact_bytes (key_in xs m) k e)))
  found_at k (m ∷ ms) h (suc i) d l e =
      let less = below_later m ms h i d (omega (arith, l)) in
      let here : cmp (key_in xs m) k ≡ Less = ap (cmp (key_in xs m)) (sym (exact_bytes _ k e)) ∙ less in
      ap (λ b. cond b (Some m) (member_with xs k ms)) (differ (key_in xs m) k (λ f. let g = sym here ∙ f in cc))
      ∙ found_at k ms (and_parts (is_below_next xs m ms) (rise xs ms) h).1 i d (omega (arith, l)) e

  none_with : (k : List ℕ) (ms : List Member) → ((j : ℕ) (d : Member) → j < length ms → cmp (key_in xs (get_or ms j d)) k ≢ Equal)
      → member_with xs k ms ≡ None
  none_with k [] h = refl
  none_with k (m ∷ ms) h =
      ap (λ b. cond b (Some m) (member_with xs k ms)) (differ (key_in xs m) k (h 0 m (omega arith)))
      ∙ none_with k ms (λ j d l. h (suc j) d (omega (arith, l)))

  pub not_found : (k : List ℕ) (ms : List Member) (i : ℕ)
      → IsPartitionPoint (λ m. cmp (key_in xs m) k ≡ Less) (λ m. cmp (key_in xs m) k ≡ Greater) ms i → member_with xs k ms ≡ None
  not_found k ms i h = none_with k ms (λ j d l. by j d l (nat_lt j i) refl)
    where
      by : (j : ℕ) (d : Member) → j < length ms → (b : Bool) → nat_lt j i ≡ b
          → cmp (key_in xs (get_or ms j d)) k ≢ Equal
      by j d l true e f = let low : j < i = grind (arith, nat_tests) in let g = sym (h.0 j d (omega arith) low) ∙ f in absurd cc
      by j d l false e f = let far : i ≤ j = grind (arith, nat_tests) in let g = sym (h.1 j d far l) ∙ f in absurd cc
