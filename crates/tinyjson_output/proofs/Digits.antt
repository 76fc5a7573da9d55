-- The digits of a number, one more at a time.
use Rattle.std.proofs.Common.{◌≡◌, ℕ, ◌+◌, ◌/◌, ◌%◌, true, false, [], ◌∷◌, ◌++◌, ◌≤◌, ◌<◌, ◌^◌, ℤ, pos, negsuc, sym, ◌∙◌, ap, arith}
use Rattle.tinyjson_number.specs.Text.{natural_text, integer_text}
use Rattle.tinyjson_number.proofs.Callers.{natural_decimal}
use Rattle.std.proofs.lemmas.Fmt.{decimal_digit, decimal_step_wide}
use Rattle.std.specs.Prelude.{unsigned_abs, int_lt}
use Rattle.std.proofs.lemmas.Int.{ints}

-- the digits of a number
pub natural_more : (n : ℕ) → 10 ≤ n → n < 2 ^ 128 → natural_text n ≡ natural_text (n / 10) ++ (48 + n % 10) ∷ []
natural_more n h s = natural_decimal n (omega arith) ∙ decimal_step_wide n h (omega arith)
    ∙ ap (λ w. w ++ (48 + n % 10) ∷ []) (sym (natural_decimal (n / 10) (omega arith)))

pub natural_one : (n : ℕ) → n < 10 → natural_text n ≡ (48 + n % 10) ∷ []
natural_one n h = let e : n % 10 ≡ n = omega arith in natural_decimal n (omega arith) ∙ decimal_digit n h ∙ ap (λ d. (48 + d) ∷ []) (sym e)

-- an exponent with its letter: the sign, and its digits
pub negative_exponent : (z : ℤ) (n : ℕ) → int_lt z (pos 0) ≡ true → n ≡ unsigned_abs z
    → 101 ∷ integer_text z ≡ 101 ∷ 45 ∷ [] ++ natural_text n
negative_exponent (pos m) n h e = absurd (grind (arith, ints))
negative_exponent (negsuc m) n h e = ap (λ k. 101 ∷ 45 ∷ natural_text k) (sym e)

pub positive_exponent : (z : ℤ) (n : ℕ) → int_lt z (pos 0) ≡ false → n ≡ unsigned_abs z → 101 ∷ integer_text z ≡ 101 ∷ [] ++ natural_text n
positive_exponent (pos m) n h e = ap (λ k. 101 ∷ natural_text k) (sym e)
positive_exponent (negsuc m) n h e = absurd (grind (arith, ints))
