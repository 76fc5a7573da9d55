-- The decimals of whole numbers.
use Rattle.std.proofs.Common.{◌≡◌, ◌≢◌, ℕ, zero, suc, ◌+◌, ◌-◌, ◌*◌, ◌^◌, ◌/◌, ◌%◌, ◌<◌, ◌≤◌, Bool, true, false, List, [], ◌∷◌, ◌++◌}
use Rattle.std.proofs.Common.{length, get_or, set, take, drop, replicate, ℤ, pos, negsuc, neg_ℤ, IsTrue, refl, sym, ap, ◌∙◌, subst, ⊎_elim}
use Rattle.std.proofs.Common.{arith, length-append, append_assoc, append-nil, Option, Some, None, SomeIff, MatchOption, rules}
use Rattle.std.specs.Prelude.{decimal, unsigned_abs, FitsSigned}
use Rattle.std.specs.Int.{w64}
use Rattle.std.specs.List.{list_all}
use Rattle.std.specs.Char.{is_ascii_digit, digit_value}
use Rattle.std.specs.Str.Parse.{digits_value}
use Rattle.std.proofs.Math.Nat.{mul-one, pow-suc}
use Rattle.std.proofs.lemmas.Bool.{false≢true, cases_lt}
use Rattle.std.proofs.lemmas.Fmt.{digits_decimal, digits_value-decimal, first_decimal, length-decimal-le, decimal_nonempty, decimal_digit}
use Rattle.std.proofs.lemmas.Fmt.{decimal_step, decimal-digits_value}
use Rattle.std.proofs.lemmas.Int.{ints}
use Rattle.std.proofs.lemmas.Int.Digits.{digits_value_push, digits_value_more}
use Rattle.std.proofs.lemmas.List.{replicate_more, get_or_append_left, length-replicate, nil_from_length, drop-set}
use Rattle.std.proofs.lemmas.Str.{digit_value_digit}
use Rattle.std.proofs.lemmas.Str.Parse.{IsNumeralModel, IsDigitsTest, numerals_by_value, digits_value-take-le}
use Rattle.tinyjson_number.specs.Decimal.{Decimal, zero_decimal, decimal_of, strip_trailing, significant, trailing_zeros}
use Rattle.tinyjson_number.specs.Numeral.{AreDigits, power_width}
use Rattle.tinyjson_number.specs.Canonical.{IsDecimal, is_canonical}
use Rattle.tinyjson_number.specs.Integer.{whole_decimal, integer_decimal}
use Rattle.tinyjson_number.proofs.Naturals.{natural_decimal}
use Rattle.tinyjson_number.proofs.Forms.{HasForm, form, zero_form}
use Rattle.tinyjson_number.proofs.Runs.{digit_at, range_from_digit, digits_list_all, list_all_digits}
use Rattle.tinyjson_number.proofs.Strips.{strip_trailing_append_none, strip_leading_none, strip_trailing_none, strip_trailing_some}
use Rattle.tinyjson_number.proofs.Strips.{strip_zeros, tail_is}
use Rattle.tinyjson_number.proofs.DecimalTrip.{digits_join, digits_replicate}
use Rattle.tinyjson_number.proofs.Readings.{kept_is}

-- the whole number that a decimal is, where its power is not negative
abbrev pub magnitude_of : Decimal → ℕ
magnitude_of d = digits_value 10 d.digits * 10 ^ unsigned_abs d.power

digits_test : IsDigitsTest (λ ds. list_all is_ascii_digit ds ≡ true)
digits_test = search rules

own : IsNumeralModel (λ ds. list_all is_ascii_digit ds ≡ true) (digits_value 10)
own = numerals_by_value _ digits_test

pub decimal_digits : (n : ℕ) → n < 2 ^ 64 → AreDigits (decimal n)
decimal_digits n fits = digits_list_all (decimal n) (digits_decimal own n fits)

-- ---- from a whole number

-- by std's text, which has all digits below 10 ^ 64
whole_by_decimal : (negative : Bool) (n : ℕ) → n < 10 ^ 64 → decimal_of negative (significant (decimal n))
    (pos (trailing_zeros (decimal n))) ≡ whole_decimal negative n
whole_by_decimal negative n small = ap (λ t. decimal_of negative (significant t) (pos (trailing_zeros t))) (sym (natural_decimal n small))

pub zero_is : (negative : Bool) → zero_decimal ≡ whole_decimal negative 0
zero_is negative = ap (λ t. decimal_of negative (significant t) (pos (trailing_zeros t))) (sym (decimal_digit 0 (omega arith)))
    ∙ whole_by_decimal negative 0 (omega arith)

module _ (n : ℕ) (some : 0 < n) (fits : n < 2 ^ 64) where
  first_not_zero : get_or (decimal n) 0 0 ≢ 48
  first_not_zero h = absurd (omega (arith, h, first_decimal n some fits))

  significant_is : significant (decimal n) ≡ strip_trailing (decimal n)
  significant_is = ap strip_trailing (strip_leading_none (decimal n) first_not_zero)

  pub kept_some : 0 < length (strip_trailing (decimal n))
  kept_some = strip_trailing_some (decimal n) (decimal_nonempty n fits) first_not_zero

  pub whole_is : (negative : Bool) (s : List ℕ) (z : ℕ) → s ≡ strip_trailing (decimal n) → z ≡ length (decimal n) - length s
      → record { negative = negative; digits = s; power = pos z } ≡ whole_decimal negative n
  whole_is negative s z is zeros = grind (arith, significant_is, kept_some, whole_by_decimal)

  pub whole_fits : (negative : Bool) (s : List ℕ) (z : ℕ) → s ≡ strip_trailing (decimal n) → z ≤ length (decimal n)
      → IsTrue (is_canonical negative s (pos z))
  whole_fits negative s z is few =
      kept_is negative s (pos z) (omega (arith, ap length is, kept_some)) (decimal n) (is ∙ sym significant_is) (decimal_digits n fits)
      (record { sfits = omega (arith, few, length-decimal-le 20 n (omega arith) (omega arith) fits) })

-- ---- digits with zeros after them

ten_more : (x k : ℕ) → x * 10 ^ k * 10 + digit_value 48 ≡ x * 10 ^ suc k
ten_more x k = rw pow-suc (omega arith)

zeros_push : (ds : List ℕ) (k : ℕ) → digits_value 10 (ds ++ replicate k 48) ≡ digits_value 10 ds * 10 ^ k
zeros_push ds zero = ap (digits_value 10) (append-nil ds) ∙ sym (mul-one (digits_value 10 ds))
zeros_push ds (suc k) = let next : suc k ≡ k + 1 = omega arith in
    let more : ds ++ replicate (suc k) 48 ≡ (ds ++ replicate k 48) ++ 48 ∷ [] =
    ap (λ t. ds ++ t) (ap (λ j. replicate j 48) next ∙ sym (replicate_more k 48)) ∙ sym (append_assoc ds (replicate k 48) (48 ∷ [])) in
    search ((zeros_push ds k), more, digits_value_push, ten_more)

-- ---- the whole number is found again

pub magnitude_whole : (negative : Bool) (n : ℕ) → n < 2 ^ 64 → magnitude_of (whole_decimal negative n) ≡ n
magnitude_whole negative n fits = ⊎_elim (λ some.
    let s = strip_trailing (decimal n) in
    let d = whole_is n some fits negative s (trailing_zeros (decimal n)) refl refl in
    ap magnitude_of (sym d) ∙ sym (zeros_push s (trailing_zeros (decimal n))) ∙ ap (digits_value 10) (sym (tail_is (decimal n)))
    ∙ digits_value-decimal own n fits)
    (λ none. let is : n ≡ 0 = omega arith in ap (λ k. magnitude_of (whole_decimal negative k)) is ∙ ap magnitude_of (sym (zero_is negative))
    ∙ sym is) (cases_lt 0 n)

some_form : (g : Bool) (ds : List ℕ) (p : ℤ) → IsTrue (is_canonical g ds p) → 0 < length ds → HasForm power_width ds p
some_form g [] p h some = absurd (omega arith)
some_form g (c ∷ cs) p h some = form power_width g c cs p h

none_form : (g : Bool) (ds : List ℕ) (p : ℤ) → IsTrue (is_canonical g ds p) → ds ≡ []
    → record { negative = g; digits = ds; power = p } ≡ zero_decimal
none_form g [] p h e = let z = zero_form power_width g p h in λ i. record { negative = z.0 i; digits = []; power = z.1 i }
none_form g (c ∷ cs) p h e = absurd (cc)

pub zero_from_none : (d : Decimal) → IsDecimal d → length d.digits ≡ 0 → d ≡ zero_decimal
zero_from_none d valid none = none_form d.negative d.digits d.power valid (nil_from_length d.digits none)

-- a decimal with a power of at least 0 is that of its whole number
module _ (d : Decimal) (valid : IsDecimal d) (p : ℕ) (power : d.power ≡ pos p) (fits : magnitude_of d < 2 ^ 64) where
  from_some : 0 < length d.digits → d ≡ whole_decimal d.negative (magnitude_of d)
  from_some some = let ds = d.digits in
      let has = some_form d.negative ds d.power valid some in
      let all : List ℕ = ds ++ replicate p 48 in
      let m : ℕ = magnitude_of d in
      let value : digits_value 10 all ≡ m = zeros_push ds p ∙ ap (λ z. digits_value 10 ds * 10 ^ unsigned_abs z) (sym power) in
      let first : get_or all 0 0 ≢ 48 = λ e. has.first (sym (get_or_append_left ds (replicate p 48) 0 0 some) ∙ e) in
      let digits : list_all is_ascii_digit all ≡ true = search (list_all_digits, digits_join, digits_replicate) in
      let long : 0 < length all = omega (arith, length-append ds (replicate p 48), some) in
      let text : decimal m ≡ all = ap decimal (sym value) ∙ decimal-digits_value own all digits long (λ e. absurd (first e))
      (omega (arith, value, fits)) in
      let positive : 0 < m = grind (arith, decimal_digit) in
      let kept : ds ≡ strip_trailing (decimal m) = search (strip_trailing_none, strip_trailing_append_none, strip_zeros, text) in
      let zeros : p ≡ length (decimal m) - length ds = grind (arith, length-append, length-replicate) in
      (λ i. record { negative = d.negative; digits = ds; power = power i }) ∙ whole_is m positive fits d.negative ds p kept zeros

  pub whole_magnitude : d ≡ whole_decimal d.negative (magnitude_of d)
  whole_magnitude = grind (arith, from_some, zero_is)

-- ---- what the calls return

-- no whole number past the type
none_past : (d : Decimal) (k : ℕ) → magnitude_of d ≡ k → ¬ (k < 2 ^ 64) → (n : ℕ) → n < 2 ^ 64 → ¬ (d ≡ whole_decimal d.negative n)
none_past d k is past n fits same = let e : magnitude_of d ≡ n = ap magnitude_of same ∙ magnitude_whole d.negative n fits in
    past (omega (arith, e, is, fits))

pub answer_is : (d : Decimal) → IsDecimal d → (p : ℕ) → d.power ≡ pos p → (r : Option ℕ)
    → SomeIff r (digits_value 10 d.digits * 10 ^ p < 2 ^ 64) (digits_value 10 d.digits * 10 ^ p)
    → MatchOption r ((n : ℕ) → n < 2 ^ 64 → ¬ (d ≡ whole_decimal d.negative n)) (λ n. d ≡ whole_decimal d.negative n)
answer_is d valid p power None h = none_past d (digits_value 10 d.digits * 10 ^ p)
    (ap (λ z. digits_value 10 d.digits * 10 ^ unsigned_abs z) power) h
answer_is d valid p power (Some x) h =
    let same : magnitude_of d ≡ x = ap (λ z. digits_value 10 d.digits * 10 ^ unsigned_abs z) power ∙ sym h.1 in
    whole_magnitude d valid p power (omega (arith, h.0, same, h.1)) ∙ ap (whole_decimal d.negative) same

-- one more digit is within the whole
pub step_within : (ds : List ℕ) (i : ℕ) → AreDigits ds → i < length ds
    → (digits_value 10 (take (i + 1) ds) ≡ digits_value 10 (take i ds) * 10 + (get_or ds i 0 - 48))
    × (digits_value 10 (take (i + 1) ds) ≤ digits_value 10 ds)
step_within ds i all lt =
    let digit = range_from_digit (get_or ds i 0) (digit_at ds i all lt) in
    (omega (arith, digits_value_more 10 ds i lt, digit_value_digit (get_or ds i 0) digit), digits_value-take-le 10 ds (i + 1) (omega arith))

ten_suc : (x k : ℕ) → x * 10 ^ suc k ≡ x * 10 ^ k * 10
ten_suc x k = rw pow-suc (omega arith)

pub ten_next : (x k : ℕ) → x * 10 ^ k * 10 ≡ x * 10 ^ (k + 1)
ten_next x k = let next : suc k ≡ k + 1 = omega arith in sym (ten_suc x k) ∙ ap (λ j. x * 10 ^ j) next

ten_grows : (x k j : ℕ) → x * 10 ^ k ≤ x * 10 ^ (k + j)
ten_grows x k zero = let same : k ≡ k + 0 = omega arith in subst (λ m. x * 10 ^ k ≤ x * 10 ^ m) same (omega arith)
ten_grows x k (suc j) =
    let next : suc (k + j) ≡ k + suc j = omega arith in
    subst (λ m. x * 10 ^ k ≤ x * 10 ^ m) next (omega (arith, ten_suc x (k + j), ten_grows x k j))

pub ten_within : (x k n : ℕ) → k < n → x * 10 ^ k * 10 ≤ x * 10 ^ n
ten_within x k n lt =
    let is : (k + 1) + (n - (k + 1)) ≡ n = omega arith in
    subst (λ m. x * 10 ^ k * 10 ≤ x * 10 ^ m) is (omega (arith, ten_next x k, ten_grows x (k + 1) (n - (k + 1))))

times_one : (x : ℕ) → x ≤ x * 10 ^ 0
times_one x = omega (arith, mul-one x)

pub none_under : (d : Decimal) (p : ℕ) → d.power ≡ pos p → ¬ (digits_value 10 d.digits < 2 ^ 64) → (n : ℕ) → n < 2 ^ 64
    → ¬ (d ≡ whole_decimal d.negative n)
none_under d p power past =
    let x : ℕ = digits_value 10 d.digits in
    let grown : x ≤ x * 10 ^ p = let is : 0 + p ≡ p = omega arith in subst (λ m. x ≤ x * 10 ^ m) is
    (omega (arith, times_one x, ten_grows x 0 p)) in
    none_past d (x * 10 ^ p) (ap (λ z. digits_value 10 d.digits * 10 ^ unsigned_abs z) power) (λ fits. past (omega (arith, fits, grown)))

-- the whole number of an integer
magnitude_integer : (z : ℤ) → FitsSigned w64 z → magnitude_of (integer_decimal z) ≡ unsigned_abs z
magnitude_integer (pos n) h = magnitude_whole false n (omega (arith, ints, h))
magnitude_integer (negsuc n) h = magnitude_whole true (suc n) (omega (arith, ints, h))

pub negative_whole : (b : Bool) (n : ℕ) → 0 < n → n < 2 ^ 64 → (whole_decimal b n).negative ≡ b
negative_whole b n some fits = ap (λ (d : Decimal). d.negative) (sym (whole_is n some fits b (strip_trailing (decimal n))
    (trailing_zeros (decimal n)) refl refl))

-- ---- whole numbers of 64 bits are told apart by their decimals

-- ---- no integer of the type

pub no_integer : (d : Decimal) (b : Bool) (m : ℕ) → d ≡ whole_decimal b m → m < 2 ^ 64 → 2 ^ 63 < m → (z : ℤ) → FitsSigned w64 z
    → ¬ (d ≡ integer_decimal z)
no_integer d b m is fits past z small same =
    let e : m ≡ unsigned_abs z = sym (magnitude_whole b m fits) ∙ ap magnitude_of (sym is ∙ same) ∙ magnitude_integer z small in
    omega (arith, ints, e, small, past)

pub no_positive : (d : Decimal) (m : ℕ) → d ≡ whole_decimal false m → m < 2 ^ 64 → 2 ^ 63 ≤ m → (z : ℤ) → FitsSigned w64 z
    → ¬ (d ≡ integer_decimal z)
no_positive d m is fits past (pos n) small same =
    let e : m ≡ n = sym (magnitude_whole false m fits) ∙ ap magnitude_of (sym is ∙ same) ∙ magnitude_integer (pos n) small in
    omega (arith, ints, e, small, past)
no_positive d m is fits past (negsuc n) small same = grind (arith, negative_whole)

pub negated : (d : Decimal) (m : ℕ) → d ≡ whole_decimal true m → d.negative ≡ true → d ≡ integer_decimal (neg_ℤ (pos m))
negated d zero is negative = absurd (false≢true (ap (λ (d : Decimal). d.negative) (zero_is true ∙ sym is) ∙ negative))
negated d (suc m) is negative = is

-- ---- digits written from the right

-- the next place from the right
pub next_place : (n rest : ℕ) → 10 ≤ rest → rest < 10 ^ n → (1 < n) × (rest / 10 < 10 ^ (n - 1))
next_place zero rest ten below = absurd (omega arith)
next_place (suc zero) rest ten below = absurd (omega arith)
next_place (suc (suc n)) rest ten below = let less : suc (suc n) - 1 ≡ suc n = omega arith in
    (omega arith, rw less (omega (arith, below, ten_suc 1 (suc n))))

placed : (xs : List ℕ) (n d : ℕ) → 0 < n → n ≤ length xs → drop (n - 1) (set xs (n - 1) d) ≡ d ∷ drop n xs
placed xs n d some within = let back : n - 1 + 1 ≡ n = omega arith in drop-set xs (n - 1) d (omega arith) ∙ ap (λ k. d ∷ drop k xs) back

pub digit_placed : (xs : List ℕ) (n rest : ℕ) → 0 < n → n ≤ length xs → 10 ≤ rest → rest < 2 ^ 64
    → decimal (rest / 10) ++ drop (n - 1) (set xs (n - 1) (48 + rest % 10)) ≡ decimal rest ++ drop n xs
digit_placed xs n rest some within ten fits = search (placed, append_assoc, decimal_step)

pub last_placed : (xs : List ℕ) (n rest : ℕ) → 0 < n → n ≤ length xs → rest < 10
    → drop (n - 1) (set xs (n - 1) (48 + rest)) ≡ decimal rest ++ drop n xs
last_placed xs n rest some within one = placed xs n (48 + rest) some within ∙ ap (λ t. t ++ drop n xs) (sym (decimal_digit rest one))
