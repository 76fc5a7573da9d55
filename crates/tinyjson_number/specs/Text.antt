-- The text of a decimal.
use Rattle.std.specs.Prelude.{ℕ, zero, suc, ◌+◌, ◌/◌, ◌%◌, nat_lt, Bool, true, false, ◌==◌, ◌||◌, if◌then◌else◌}
use Rattle.std.specs.Prelude.{List, [], ◌∷◌, ◌++◌, length, take, drop, replicate, ℤ, pos, negsuc, ◌+ℤ◌, ◌-ℤ◌, int_lt, unsigned_abs}
use Rattle.tinyjson_number.specs.Decimal.{Decimal}
use Rattle.tinyjson_number.specs.Numeral.{minus_text, fraction_text}
use Rattle.tinyjson_number.specs.Characters.{decimal_point, digit_zero, letter_e, minus_sign}

-- The digits of n, in at most fuel + 1 digits; the test says whether it is the last digit.
abbrev pub digits_within : Bool → ℕ → ℕ → List ℕ
digits_within true fuel n = (digit_zero + n) ∷ []
digits_within false zero n = (digit_zero + n % 10) ∷ []
digits_within false (suc fuel) n = digits_within (nat_lt (n / 10) 10) fuel (n / 10) ++ (digit_zero + n % 10) ∷ []

-- a number in decimal, of any size
unfoldable pub natural_text : ℕ → List ℕ
natural_text n = digits_within (nat_lt n 10) n n

abbrev pub integer_text : ℤ → List ℕ
integer_text (pos n) = natural_text n
integer_text (negsuc n) = minus_sign ∷ natural_text (suc n)

-- with no exponent; point is the place of the point, counted from the first digit on
abbrev pub plain_text : List ℕ → ℤ → ℤ → List ℕ
plain_text digits power point =
    if int_lt power (pos 0) then
    (if int_lt point (pos 1) then digit_zero ∷ decimal_point ∷ (replicate (unsigned_abs point) digit_zero ++ digits)
    else take (unsigned_abs point) digits ++ (decimal_point ∷ drop (unsigned_abs point) digits))
    else digits ++ replicate (unsigned_abs power) digit_zero

-- with an exponent
abbrev pub scientific_text : List ℕ → ℤ → List ℕ
scientific_text digits point = take 1 digits ++ (fraction_text (drop 1 digits) ++ (letter_e ∷ integer_text (point -ℤ pos 1)))

-- the point is before the place -323 or after the place 309
abbrev pub is_far : ℤ → Bool
is_far point = int_lt point (negsuc 322) || int_lt (pos 309) point

abbrev pub magnitude_text : List ℕ → ℤ → ℤ → List ℕ
magnitude_text digits power point = if is_far point then scientific_text digits point else plain_text digits power point

-- the text of a decimal: zero is `0`
unfoldable pub decimal_text : Decimal → List ℕ
decimal_text d =
    if length d.digits == 0 then digit_zero ∷ []
    else minus_text d.negative ++ magnitude_text d.digits d.power (pos (length d.digits) +ℤ d.power)
