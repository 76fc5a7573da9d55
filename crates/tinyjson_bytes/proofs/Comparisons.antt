-- Vectors of bytes are equal where no lane differs, and runs of bytes where their ends are.
use Rattle.std.proofs.Common.{◌≡◌, ◌≢◌, ℕ, ◌+◌, ◌-◌, ◌*◌, ◌%◌, ◌^◌, ◌≤◌, Bool, true, false, not, cond, eqb, List, [], ◌∷◌, ◌++◌, length}
use Rattle.std.proofs.Common.{take, drop, refl, sym, ap, ap₂, ◌∙◌, subst, ◌⊎◌, inl, inr, arith, w8, map, nat_eq}
use Rattle.std.proofs.Common.{length-drop, rules, take-append-drop}
use Rattle.std.proofs.lemmas.Bool.{eqb-true, eq-eqb}
use Rattle.std.proofs.lemmas.Bool.Decides.{eqb_tells}
use Rattle.std.proofs.lemmas.List.{take_all, take-take}
use Rattle.std.proofs.lemmas.Simd.{length-zip2, mask_l-mod, tops_compared}
use Rattle.std.specs.Bool.{MatchBool}
use lib.Lanes.{chunk, zip2, mask_l, top}

abbrev pub unequal : ℕ → ℕ → Bool
unequal a b = not (eqb a b)

first_equal : (b : Bool) (m : ℕ) → cond (not b) 1 0 + 2 * m ≡ 0 → (b ≡ true) × (m ≡ 0)
first_equal true m e = (refl, omega arith)
first_equal false m e = let no : ⊥ = omega arith in absurd no

none_differ : (xs ys : List ℕ) → length xs ≡ length ys → mask_l (zip2 unequal xs ys) ≡ 0 → xs ≡ ys
none_differ [] [] same none = refl
none_differ [] (y ∷ ys) same none = let no : ⊥ = omega arith in absurd no
none_differ (x ∷ xs) [] same none = let no : ⊥ = omega arith in absurd no
none_differ (x ∷ xs) (y ∷ ys) same none =
    let h = first_equal (eqb x y) (mask_l (zip2 unequal xs ys)) none in
    ap₂ (λ z zs. z ∷ zs) (eqb-true x y h.0) (none_differ xs ys (omega arith) h.1)

all_equal : (xs : List ℕ) → mask_l (zip2 unequal xs xs) ≡ 0
all_equal [] = refl
all_equal (x ∷ xs) = ap₂ (λ b m. cond (not b) 1 0 + 2 * m) (eq-eqb x x refl) (all_equal xs)

decided : (xs ys : List ℕ) → length xs ≡ length ys
    → MatchBool (nat_eq (mask_l (zip2 unequal xs ys)) 0) (xs ≡ ys) (xs ≢ ys)
decided xs ys same = go (eqb_tells m 0)
  where
    m : ℕ
    m = mask_l (zip2 unequal xs ys)

    go : ((eqb m 0 ≡ true) × (m ≡ 0)) ⊎ ((eqb m 0 ≡ false) × (m ≢ 0)) → MatchBool (nat_eq m 0) (xs ≡ ys) (xs ≢ ys)
    go (inl h) = subst (λ b. MatchBool b (xs ≡ ys) (xs ≢ ys)) (sym h.0) (none_differ xs ys same h.1)
    go (inr h) = subst (λ b. MatchBool b (xs ≡ ys) (xs ≢ ys)) (sym h.0)
        (λ e. h.1 (ap (λ v. mask_l (zip2 unequal xs v)) (sym e) ∙ all_equal xs))

-- the mask of the lanes that differ is zero exactly where the vectors are equal
pub judged : (xs ys : List ℕ) → length xs ≡ length ys → length xs ≤ 64
    → MatchBool (nat_eq (mask_l (map (top 7) (zip2 (λ a b. cond (unequal a b) 255 0) xs ys)) % 2 ^ 64) 0) (xs ≡ ys) (xs ≢ ys)
judged xs ys same short =
    subst (λ m. MatchBool (nat_eq m 0) (xs ≡ ys) (xs ≢ ys))
    (sym (ap (λ l. mask_l l % 2 ^ 64) (tops_compared w8 unequal xs ys)
    ∙ mask_l-mod (zip2 unequal xs ys) 64 (omega (arith, length-zip2 unequal xs ys same)))) (decided xs ys same)

-- the first n bytes and the last n bytes are all
pub joined : (n : ℕ) (a b : List ℕ) → length a ≡ length b → n ≤ length a → length a ≤ n + n
    → chunk 0 n a ≡ chunk 0 n b → chunk (length a - n) n a ≡ chunk (length a - n) n b → a ≡ b
joined n a b same low high front back =
    let k = length a - n in
    sym (take-append-drop k a)
    ∙ ap₂ (λ x y. x ++ y) (sym (take-take k n a (omega arith)) ∙ ap (take k) front ∙ take-take k n b (omega arith))
    (sym (take_all n (drop k a) (omega (arith, length-drop k a))) ∙ back ∙ take_all n (drop k b) (omega (arith, length-drop k b)))
    ∙ take-append-drop k b

-- two ends that are compared one after the other
pub both_equal : (n : ℕ) (a b : List ℕ) → length a ≡ length b → n ≤ length a → length a ≤ n + n → (f g : Bool)
    → MatchBool f (chunk 0 n a ≡ chunk 0 n b) (chunk 0 n a ≢ chunk 0 n b)
    → MatchBool g (chunk (length a - n) n a ≡ chunk (length a - n) n b) (chunk (length a - n) n a ≢ chunk (length a - n) n b)
    → f ≡ true → MatchBool g (a ≡ b) (a ≢ b)
both_equal n a b same low high true true front back e = joined n a b same low high front back
both_equal n a b same low high true false front back e = λ is. back (ap (chunk (length a - n) n) is)
both_equal n a b same low high false g front back e = let no : ⊥ = search rules in absurd no
