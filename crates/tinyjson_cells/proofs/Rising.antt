-- Members whose keys rise are sorted, and none of their keys comes again.
use Rattle.std.proofs.Common.{◌≡◌, ℕ, ◌+◌, zero, suc, true, false, cond, List, [], ◌∷◌, get_or, refl, sym, ◌∙◌, ap, subst}
use Rattle.std.proofs.Common.{IfOk, Result, Ok, Err, arith}
use Rattle.std.proofs.lemmas.Bool.{and_parts}
use Rattle.std.proofs.lemmas.Cmp.{nat_list_cmp_total}
use Rattle.std.proofs.lemmas.List.Sorted.{IsPermutation-refl}
use Rattle.std.specs.Cmp.Lexicographic.{slice_cmp}
use Rattle.std.specs.List.Sorted.{IsSortedBy}
use Rattle.std.specs.Ordering.{is_lt, nat_cmp, ordering_reverse}
use Rattle.std.specs.declared.cmp.Ordering.{Ordering}
use Rattle.std.specs.declared.cmp.Ordering.TheVariants.{Less, Equal, Greater}
use Rattle.tinyjson_cells.specs.Cell.{IsRun}
use Rattle.tinyjson_cells.specs.Order.{key_in, key_lt, comes_again, lasts, is_below_next, rise, IsOrdered}
use Rattle.tinyjson_cells.specs.declared.store.Span.{Span}
use Rattle.tinyjson_cells.specs.declared.store.Member.{Member}
use Rattle.tinyjson_cells.specs.declared.texts.Texts.{Texts}
use Rattle.tinyjson_cells.proofs.Gathered.{apart}

abbrev cmp : List ℕ → List ℕ → Ordering
cmp = slice_cmp nat_cmp

less_from : (o : Ordering) → is_lt o ≡ true → o ≡ Less
less_from Less h = refl
less_from Equal h = absurd cc
less_from Greater h = absurd cc

not_above : (a b : List ℕ) → is_lt (cmp a b) ≡ true → is_lt (cmp b a) ≡ false
not_above a b h = ap is_lt (nat_list_cmp_total.antisymm b a ∙ ap ordering_reverse (less_from (cmp a b) h))

further : (k : ℕ) → suc (k + 1) ≡ suc k + 1
further k = omega arith

module _ (xs : Texts) where
  not_again : (m : Member) (ms : List Member) → is_below_next xs m ms ≡ true → comes_again xs m ms ≡ false
  not_again m [] h = refl
  not_again m (n ∷ ns) h = apart (key_in xs m) (key_in xs n) Less (less_from (cmp (key_in xs m) (key_in xs n)) h) (λ e. cc)

  -- none is left out
  pub rise_lasts : (ms : List Member) → rise xs ms ≡ true → lasts xs ms ≡ ms
  rise_lasts [] h = refl
  rise_lasts (m ∷ ms) h =
      let p = and_parts (is_below_next xs m ms) (rise xs ms) h in
      ap (λ b. cond b (lasts xs ms) (m ∷ lasts xs ms)) (not_again m ms p.0) ∙ ap (λ z. m ∷ z) (rise_lasts ms p.1)

  pub rise_sorted : (ms : List Member) → rise xs ms ≡ true → IsSortedBy (key_lt xs) ms
  rise_sorted [] h k d a b = absurd (omega arith)
  rise_sorted (m ∷ []) h k d a b = absurd (omega arith)
  rise_sorted (m ∷ n ∷ ms) h zero d a b =
      not_above (key_in xs m) (key_in xs n) (and_parts (is_below_next xs m (n ∷ ms)) (rise xs (n ∷ ms)) h).0
  rise_sorted (m ∷ n ∷ ms) h (suc k) d a b =
      subst (λ j. key_lt xs (get_or (m ∷ n ∷ ms) j d) (get_or (n ∷ ms) k d) ≡ false) (further k)
      (rise_sorted (n ∷ ms) (and_parts (is_below_next xs m (n ∷ ms)) (rise xs (n ∷ ms)) h).1 k d (omega arith) (omega arith))

  pub rise_ordered : (ms : List Member) → rise xs ms ≡ true → IsOrdered xs ms ms
  rise_ordered ms h = record { permuted = IsPermutation-refl ms; sorted = rise_sorted ms h; stable = λ x. refl }

  -- those that rise were added as they are
  pub rise_adds : {E : Type 0} (all ms : List Member) (r : Result Span E) → rise xs ms ≡ true → IfOk r (λ p. IsRun all p ms)
      → IfOk r (λ p. (ns : List Member) × IsOrdered xs ms ns × IsRun all p (lasts xs ns))
  rise_adds all ms (Ok p) h k = (ms, rise_ordered ms h, subst (IsRun all p) (sym (rise_lasts ms h)) k)
  rise_adds all ms (Err e) h k = tt
