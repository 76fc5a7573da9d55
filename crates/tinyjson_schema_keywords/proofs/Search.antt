-- The keyword of a name, found by the order of the names.
use Rattle.std.proofs.Common.{◌≡◌, ◌∷◌, [], ℕ, zero, suc, ◌<◌, Bool, true, false, not, cond, is_some, List, Some, None, length, get_or}
use Rattle.std.proofs.Common.{bytes_eq, refl, sym, ap, ◌∙◌, arith, add-one, true≢false}
use Rattle.std.proofs.lemmas.Bool.{and_parts}
use Rattle.std.proofs.lemmas.Map.Text.{is_eq-slice_cmp}
use Rattle.std.proofs.lemmas.Slice.Eq.{bytes_eq-Decides}
use Rattle.std.specs.Cmp.Lexicographic.{slice_cmp}
use Rattle.std.specs.List.Sorted.{IsSortedBy}
use Rattle.std.specs.Ordering.{nat_cmp, is_eq, is_lt}
use Rattle.std.specs.declared.cmp.Ordering.{Ordering}
use Rattle.tinyjson_schema_keywords.specs.Names.{name, keyword_among, is_rising, are_apart}
use Rattle.tinyjson_schema_keywords.specs.declared.keyword.Keyword.{Keyword}

-- how the name of a keyword and the key compare
abbrev pub compared : List ℕ → Keyword → Ordering
compared key k = slice_cmp nat_cmp (name k) key

pub equal : (key : List ℕ) (k : Keyword) (o : Ordering) → compared key k ≡ o → bytes_eq (name k) key ≡ is_eq o
equal key k o e = sym (is_eq-slice_cmp (name k) key) ∙ ap is_eq e

not_true : (b : Bool) → not b ≡ true → b ≡ false
not_true true h = cc
not_true false h = refl

rising_next : (ks : List Keyword) → is_rising ks ≡ true → (k : ℕ) (d : Keyword) → suc k < length ks
    → is_lt (slice_cmp nat_cmp (name (get_or ks (suc k) d)) (name (get_or ks k d))) ≡ false
rising_next [] h k d b = absurd (omega (arith, b))
rising_next (x ∷ []) h k d b = absurd (omega (arith, b))
rising_next (x ∷ y ∷ ks) h zero d b = not_true _ (and_parts _ _ h).0
rising_next (x ∷ y ∷ ks) h (suc k) d b = rising_next (y ∷ ks) (and_parts _ _ h).1 k d (omega (arith, b))

pub rising_sorted : (ks : List Keyword) → is_rising ks ≡ true → IsSortedBy (λ k l. is_lt (slice_cmp nat_cmp (name k) (name l))) ks
rising_sorted ks h k d a b = rw add-one (rising_next ks h k d (omega (arith, b)))

some_found : (ks : List Keyword) (key : List ℕ) (i : ℕ) (d : Keyword) → i < length ks → bytes_eq (name (get_or ks i d)) key ≡ true
    → is_some (keyword_among ks key) ≡ true
some_found [] key i d h n = absurd (omega (arith, h))
some_found (x ∷ ks) key zero d h n = ap (λ b. is_some (cond b (Some x) (keyword_among ks key))) n
some_found (x ∷ ks) key (suc i) d h n = by (bytes_eq (name x) key) (some_found ks key i d (omega (arith, h)) n)
  where
    by : (b : Bool) → is_some (keyword_among ks key) ≡ true → is_some (cond b (Some x) (keyword_among ks key)) ≡ true
    by true f = refl
    by false f = f

pub found : (ks : List Keyword) (key : List ℕ) (i : ℕ) (d : Keyword) → are_apart ks ≡ true → i < length ks
    → bytes_eq (name (get_or ks i d)) key ≡ true → Some (get_or ks i d) ≡ keyword_among ks key
found [] key i d a h n = absurd (omega (arith, h))
found (x ∷ ks) key zero d a h n = sym (ap (λ b. cond b (Some x) (keyword_among ks key)) n)
found (x ∷ ks) key (suc i) d a h n =
    by (bytes_eq (name x) key) refl (found ks key i d (and_parts _ _ a).1 (omega (arith, h)) n)
  where
    by : (b : Bool) → bytes_eq (name x) key ≡ b → Some (get_or ks i d) ≡ keyword_among ks key
        → Some (get_or ks i d) ≡ cond b (Some x) (keyword_among ks key)
    by true f later =
        let same : name x ≡ key = (bytes_eq-Decides (name x) key).0 f in
        let again = some_found ks (name x) i d (omega (arith, h)) (ap (bytes_eq (name (get_or ks i d))) same ∙ n) in
        absurd (true≢false (sym (and_parts _ _ a).0 ∙ ap not again))
    by false f later = later

pub not_found : (ks : List Keyword) (key : List ℕ) → ((j : ℕ) (d : Keyword) → j < length ks → bytes_eq (name (get_or ks j d)) key ≡ false)
    → None ≡ keyword_among ks key
not_found [] key h = refl
not_found (k ∷ ks) key h = not_found ks key (λ j d l. h (suc j) d (omega arith))
    ∙ sym (ap (λ b. cond b (Some k) (keyword_among ks key)) (h zero k (omega arith)))
