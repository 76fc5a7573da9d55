-- The digits of a number.
use Rattle.std.proofs.Common.{◌≡◌, ℕ, zero, suc, ◌+◌, ◌/◌, ◌%◌, ◌<◌, ◌≤◌, Bool, true, false, List, [], ◌∷◌, ◌++◌, length, refl, sym, ap}
use Rattle.std.proofs.Common.{◌∙◌, arith, length-append, nat_lt, IsTrue, ◌*◌, ◌^◌, ℤ, pos, negsuc}
use Rattle.std.specs.Fmt.{decimal, signed_decimal}
use Rattle.std.proofs.lemmas.Fmt.{decimal_digit, decimal_step_wide}
use lib.Signed.{mag}
use Rattle.std.specs.Char.{is_ascii_digit, digit_value}
use Rattle.std.specs.Str.Parse.{digits_value, digits_value_after}
use Rattle.std.proofs.lemmas.Bool.{ltb-true, ltb-false, and_from, le-leb, le-ltb, lt-ltb}
use Rattle.tinyjson_number.specs.Numeral.{AreDigits}
use Rattle.tinyjson_number.specs.Text.{digits_within, natural_text, integer_text}

pub digits_append : (ds : List ℕ) (c : ℕ) → AreDigits ds → IsTrue (is_ascii_digit c) → AreDigits (ds ++ c ∷ [])
digits_append [] c h i = (i, tt)
digits_append (d ∷ ds) c h i = (h.0, digits_append ds c h.1 i)

pub value_of_digit : (d : ℕ) → d < 10 → digit_value (48 + d) ≡ d
value_of_digit d h = rw (le-ltb (48 + d) 48 (omega arith)) (rw (lt-ltb (48 + d) 58 (omega arith)) (omega arith))

pub digit_is : (d : ℕ) → d < 10 → IsTrue (is_ascii_digit (48 + d))
digit_is d h = and_from _ _ (le-leb 48 (48 + d) (omega arith)) (le-leb (48 + d) 57 (omega arith))

pub after_append : (n : ℕ) (xs ys : List ℕ) → digits_value_after 10 n (xs ++ ys) ≡ digits_value_after 10 (digits_value_after 10 n xs) ys
after_append n [] ys = refl
after_append n (x ∷ xs) ys = after_append (n * 10 + digit_value x) xs ys

pub record IsNatural (n : ℕ) (ds : List ℕ) : Type 0 where
  pub are : AreDigits ds
  pub some : 0 < length ds
  pub value : digits_value 10 ds ≡ n

natural_one : (n : ℕ) → n < 10 → IsNatural n ((48 + n) ∷ [])
natural_one n h = record { are = (digit_is n h, tt); some = omega arith; value = omega (arith, value_of_digit n h) }

natural_more : (n : ℕ) (ds : List ℕ) → IsNatural (n / 10) ds → IsNatural n (ds ++ (48 + n % 10) ∷ [])
natural_more n ds h = grind (arith, digits_append, length-append, after_append, value_of_digit)

natural_within : (b : Bool) (k n : ℕ) → nat_lt n 10 ≡ b → n ≤ k → IsNatural n (digits_within b k n)
natural_within true k n e h = natural_one n (ltb-true n 10 e)
natural_within false zero n e h = absurd (omega (arith, ltb-false n 10 e))
natural_within false (suc k) n e h = natural_more n (digits_within (nat_lt (n / 10) 10) k (n / 10))
    (natural_within (nat_lt (n / 10) 10) k (n / 10) refl (omega (arith, ltb-false n 10 e)))

pub natural : (n : ℕ) → IsNatural n (natural_text n)
unfolding natural_text
natural n = natural_within (nat_lt n 10) n n refl (omega arith)

-- ---- the same as std's text, where that has all digits

within_decimal : (b : Bool) (k n : ℕ) → nat_lt n 10 ≡ b → n ≤ k → n < 10 ^ 64 → digits_within b k n ≡ decimal n
within_decimal true k n e h s = sym (decimal_digit n (ltb-true n 10 e))
within_decimal false zero n e h s = absurd (omega (arith, ltb-false n 10 e))
within_decimal false (suc k) n e h s = ap (λ z. z ++ (48 + n % 10) ∷ [])
    (within_decimal (nat_lt (n / 10) 10) k (n / 10) refl (omega (arith, ltb-false n 10 e)) (omega arith))
    ∙ sym (decimal_step_wide n (ltb-false n 10 e) s)

pub natural_decimal : (n : ℕ) → n < 10 ^ 64 → natural_text n ≡ decimal n
unfolding natural_text
natural_decimal n s = within_decimal (nat_lt n 10) n n refl (omega arith) s

pub integer_decimal : (z : ℤ) → mag z + 1 < 10 ^ 64 → integer_text z ≡ signed_decimal z
integer_decimal (pos n) s = natural_decimal n (omega arith)
integer_decimal (negsuc n) s = ap (λ t. 45 ∷ t) (natural_decimal (suc n) (omega arith))
