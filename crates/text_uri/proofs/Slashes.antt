-- The last slash of a text.
use Rattle.std.proofs.Common.{◌≡◌, ◌≢◌, ◌∷◌, [], ℕ, suc, zero, ◌<◌, ◌+◌, ◌==◌, ◌||◌, Bool, true, false, List, cond, length, get_or, take}
use Rattle.std.proofs.Common.{refl, sym, ap, ◌∙◌, arith, Option, Some, None, MatchOption, eq-eqb, eqb-true, unwrap_or, add-one}
use Rattle.text_uri.specs.Letters.{has_slash, before_last_slash, through_last_slash}

no_slash : (xs : List ℕ) → ((i : ℕ) → i < length xs → get_or xs i 0 ≢ 47) → has_slash xs ≡ false
no_slash [] h = refl
no_slash (x ∷ xs) h = by (x == 47) refl (no_slash xs (λ i l. h (suc i) (omega arith)))
  where
    by : (b : Bool) → (x == 47) ≡ b → has_slash xs ≡ false → (b || has_slash xs) ≡ false
    by true e more = absurd (h 0 (omega arith) (eqb-true x 47 e))
    by false e more = more

some_slash : (xs : List ℕ) (k : ℕ) → k < length xs → get_or xs k 0 ≡ 47 → has_slash xs ≡ true
some_slash [] k l e = absurd (omega (arith, l))
some_slash (x ∷ xs) zero l e = ap (λ b. b || has_slash xs) (eq-eqb x 47 e)
some_slash (x ∷ xs) (suc k) l e = by (x == 47) (has_slash xs) (some_slash xs k (omega arith) e)
  where
    by : (a b : Bool) → b ≡ true → (a || b) ≡ true
    by true b e = refl
    by false b e = e

before_last : (xs : List ℕ) (k : ℕ) → k < length xs → get_or xs k 0 ≡ 47
    → ((i : ℕ) → k < i → i < length xs → get_or xs i 0 ≢ 47) → before_last_slash xs ≡ take k xs
before_last [] k l e h = absurd (omega (arith, l))
before_last (x ∷ xs) zero l e h = ap (λ b. cond b (x ∷ before_last_slash xs) [])
    (no_slash xs (λ i m. h (suc i) (omega arith) (omega arith)))
before_last (x ∷ xs) (suc k) l e h = ap (λ b. cond b (x ∷ before_last_slash xs) []) (some_slash xs k (omega arith) e)
    ∙ ap (λ ys. x ∷ ys) (before_last xs k (omega arith) e (λ i m n. h (suc i) (omega arith) (omega arith)))

through_none : (xs : List ℕ) → has_slash xs ≡ false → through_last_slash xs ≡ []
through_none [] e = refl
through_none (x ∷ xs) e = ap (λ b. cond b (x ∷ through_last_slash xs) []) e

through_last : (xs : List ℕ) (k : ℕ) → k < length xs → get_or xs k 0 ≡ 47
    → ((i : ℕ) → k < i → i < length xs → get_or xs i 0 ≢ 47) → through_last_slash xs ≡ take (suc k) xs
through_last [] k l e h = absurd (omega (arith, l))
through_last (x ∷ xs) zero l e h = ap (λ b. cond b (x ∷ through_last_slash xs) []) (some_slash (x ∷ xs) 0 l e)
    ∙ ap (λ ys. x ∷ ys) (through_none xs (no_slash xs (λ i m. h (suc i) (omega arith) (omega arith))))
through_last (x ∷ xs) (suc k) l e h = ap (λ b. cond b (x ∷ through_last_slash xs) []) (some_slash (x ∷ xs) (suc k) l e)
    ∙ ap (λ ys. x ∷ ys) (through_last xs k (omega arith) e (λ i m n. h (suc i) (omega arith) (omega arith)))

before_none : (xs : List ℕ) → ((i : ℕ) → i < length xs → get_or xs i 0 ≢ 47) → before_last_slash xs ≡ []
before_none [] h = refl
before_none (x ∷ xs) h = ap (λ b. cond b (x ∷ before_last_slash xs) []) (no_slash xs (λ i l. h (suc i) (omega arith)))

-- what a search for the last slash finds
pub removed : (xs : List ℕ) (r : Option ℕ) → MatchOption r ((i : ℕ) → i < length xs → get_or xs i 0 ≢ 47)
    (λ k. (k < length xs) × (get_or xs k 0 ≡ 47) × ((i : ℕ) → k < i → i < length xs → get_or xs i 0 ≢ 47))
    → take (unwrap_or r 0) xs ≡ before_last_slash xs
removed xs None h = by xs ∙ sym (before_none xs h)
  where
    by : (ys : List ℕ) → take 0 ys ≡ []
    by [] = refl
    by (y ∷ ys) = refl
removed xs (Some k) h = sym (before_last xs k h.0 h.1 h.2)

pub kept_none : (xs : List ℕ) → ((i : ℕ) → i < length xs → get_or xs i 0 ≢ 47) → [] ≡ through_last_slash xs
kept_none xs h = sym (through_none xs (no_slash xs h))

pub kept : (xs : List ℕ) (k : ℕ) → (k < length xs) × (get_or xs k 0 ≡ 47) × ((i : ℕ) → k < i → i < length xs → get_or xs i 0 ≢ 47)
    → take (k + 1) xs ≡ through_last_slash xs
kept xs k h = ap (λ n. take n xs) (add-one k) ∙ sym (through_last xs k h.0 h.1 h.2)
