-- The decimal of a numeral, from what the code keeps of it.
use Rattle.std.proofs.Common.{◌≡◌, ℕ, ◌-◌, ◌<◌, ◌≤◌, ◌^◌, min, Bool, true, false, List, [], ◌∷◌, ◌++◌, length, ℤ, pos, negsuc, neg_ℤ}
use Rattle.std.proofs.Common.{IsTrue, ◌&&◌, ◌==◌, cond, refl, sym, ap, ◌∙◌, subst, ⊎_elim, arith, Option, Some, None, inl, inr, ◌⊎◌, Result}
use Rattle.std.proofs.Common.{Ok, Err}
use mir.Val.{to_z, of_z}
use Rattle.std.specs.Prelude.{FitsSigned, int_le, int_lt, ◌+ℤ◌, ◌-ℤ◌, ◌≤ℤ◌}
use Rattle.std.specs.Result.{IsErrAnd}
use Rattle.std.specs.Int.{w64}
use Rattle.std.specs.Str.Parse.{digits_value}
use Rattle.std.proofs.lemmas.Bool.{cases_lt}
use Rattle.std.proofs.lemmas.Int.{ints}
use Rattle.tinyjson_number.specs.Decimal.{Decimal, decimal_of, significant, trailing_zeros, zero_decimal}
use Rattle.tinyjson_number.specs.Numeral.{Exponent, Numeral, AreDigits, signed, exponent_value, power_of, value, power_fits, power_width}
use Rattle.tinyjson_number.specs.Numeral.{in_range}
use Rattle.tinyjson_number.specs.Canonical.{is_canonical}
use Rattle.tinyjson_number.specs.NumberText.{Spells}
use Rattle.tinyjson_number.specs.Number.{Canonical}
use Rattle.tinyjson_number.specs.private.Power.{exponent_cap, near_cap, capped, shifted}
use Rattle.tinyjson_number.specs.Reading.{Reads, ReadsNumeral}
use Rattle.tinyjson_number.specs.Error.{of_literal}
use Rattle.tinyjson_number.specs.declared.error.JsonNumberError.{JsonNumberError}
use Rattle.tinyjson_number.specs.declared.error.JsonNumberError.TheVariants as number
use Rattle.tinyjson_number.specs.declared.error.LiteralError.{LiteralError}
use Rattle.tinyjson_number.specs.declared.error.LiteralError.TheVariants.{OutOfRange, OutOfMemory}
use Rattle.tinyjson_number.proofs.Strips.{digits_leading, digits_trailing, first_leading, first_trailing, last_trailing}
use Rattle.tinyjson_number.proofs.Forms.{formed}
use Rattle.tinyjson_number.proofs.DecimalTrip.{decimal_of_some}

-- ---- the range of powers

fits_cases : (z : ℤ) → FitsSigned w64 z → (int_le (neg_ℤ (pos (2 ^ 63))) z && int_lt z (pos (2 ^ 63))) ≡ true
fits_cases z h = grind (arith, ints)

pub fitting_power : (z : ℤ) → FitsSigned w64 z → IsTrue (power_fits power_width z)
unfolding power_fits
fitting_power z h = fits_cases z h

within_cases : (z : ℤ) → (int_le (neg_ℤ (pos (2 ^ 63))) z && int_lt z (pos (2 ^ 63))) ≡ true → FitsSigned w64 z
within_cases z h = record { sfits = grind (arith, ints) }

pub power_within : (z : ℤ) → IsTrue (power_fits power_width z) → FitsSigned w64 z
unfolding power_fits
power_within z h = within_cases z h

refuted : (b : Bool) → ¬ IsTrue b → b ≡ false
refuted true h = absurd (h refl)
refuted false h = refl

-- ---- the cap on the exponent

cap_cases : (v : ℕ) → (min v exponent_cap ≡ v) ⊎ ((min v exponent_cap ≡ exponent_cap) × (exponent_cap < v))
cap_cases v = ⊎_elim (λ over. inr (omega arith, over)) (λ under. inl (omega arith)) (cases_lt exponent_cap v)

same_plus : (v f t : ℕ) → f < 2 ^ 64 → t < 2 ^ 64 → FitsSigned w64 (shifted (pos (min v exponent_cap)) f t) ⊎ FitsSigned w64
    (shifted (pos v) f t) → min v exponent_cap ≡ v
same_plus v f t hf ht fits = ⊎_elim (λ same. same) (λ over. absurd (⊎_elim (λ h. omega (arith, ints, h))
    (λ h. omega (arith, ints, h)) fits)) (cap_cases v)

same_minus : (v f t : ℕ) → f < 2 ^ 64 → t < 2 ^ 64 → FitsSigned w64 (shifted (neg_ℤ (pos (min v exponent_cap))) f t) ⊎ FitsSigned w64
    (shifted (neg_ℤ (pos v)) f t) → min v exponent_cap ≡ v
same_minus v f t hf ht fits = ⊎_elim (λ same. same) (λ over. absurd (⊎_elim (λ h. omega (arith, ints, h))
    (λ h. omega (arith, ints, h)) fits)) (cap_cases v)

sign_cases : (b : Bool) (v f t : ℕ) → f < 2 ^ 64 → t < 2 ^ 64 → FitsSigned w64
    (shifted (cond b (neg_ℤ (pos (min v exponent_cap))) (pos (min v exponent_cap))) f t) ⊎ FitsSigned w64
    (shifted (cond b (neg_ℤ (pos v)) (pos v)) f t) → cond b (neg_ℤ (pos (min v exponent_cap))) (pos (min v exponent_cap)) ≡ cond b
    (neg_ℤ (pos v)) (pos v)
sign_cases true v f t hf ht fits = ap (λ n. neg_ℤ (pos n)) (same_minus v f t hf ht fits)
sign_cases false v f t hf ht fits = ap pos (same_plus v f t hf ht fits)

cap_signed : (s : Option ℕ) (v f t : ℕ) → f < 2 ^ 64 → t < 2 ^ 64 → FitsSigned w64
    (shifted (signed s (min v exponent_cap)) f t) ⊎ FitsSigned w64 (shifted (signed s v) f t) → signed s (min v exponent_cap) ≡ signed s v
cap_signed None v f t hf ht fits = ap pos (same_plus v f t hf ht fits)
cap_signed (Some c) v f t hf ht fits = sign_cases (c == 45) v f t hf ht fits

-- where either power is in range, the cap changed nothing
cap_harmless : (e : Option Exponent) (f t : ℕ) → f < 2 ^ 64 → t < 2 ^ 64
    → FitsSigned w64 (shifted (capped e) f t) ⊎ FitsSigned w64 (shifted (exponent_value e) f t) → capped e ≡ exponent_value e
cap_harmless None f t hf ht fits = refl
cap_harmless (Some e) f t hf ht fits = cap_signed e.sign (digits_value 10 e.digits) f t hf ht fits

-- ---- the decimal of a numeral

-- stripped digits have the one form
pub kept_is : (negative : Bool) (s : List ℕ) (power : ℤ) → 0 < length s → (ds : List ℕ) → s ≡ significant ds → AreDigits ds
    → FitsSigned w64 power → IsTrue (is_canonical negative s power)
kept_is negative [] power some ds is all fits = absurd (omega arith)
kept_is negative (c ∷ cs) power some ds is all fits = search (
  formed,
  is,
  digits_trailing,
  digits_leading,
  first_trailing,
  first_leading,
  last_trailing,
  fitting_power,
)

pub zero_value : (n : Numeral) → significant (n.integer ++ n.fraction) ≡ [] → value n ≡ zero_decimal
unfolding value
zero_value n h = ap (λ t. decimal_of n.negative t (power_of n)) h

pub zero_in_range : (n : Numeral) → significant (n.integer ++ n.fraction) ≡ [] → IsTrue (in_range (value n))
zero_in_range n h = subst (λ (d : Decimal). IsTrue (in_range d)) (sym (zero_value n h))
    (fitting_power (pos 0) (record { sfits = omega arith }))

-- from the digits that are left of the numeral
module _ (n : Numeral) (s : List ℕ) (zeros : ℕ) (is : s ≡ significant (n.integer ++ n.fraction)) (some : 0 < length s)
    (zeros_are : zeros ≡ trailing_zeros (n.integer ++ n.fraction)) where
  abbrev shifted_by : ℤ → ℤ
  shifted_by e = shifted e (length n.fraction) zeros

  power_is : power_of n ≡ shifted_by (exponent_value n.exponent)
  power_is = ap (λ z. shifted (exponent_value n.exponent) (length n.fraction) z) (sym zeros_are)

  value_is : record { negative = n.negative; digits = s; power = power_of n } ≡ value n
  unfolding value
  value_is = sym (decimal_of_some n.negative s (power_of n) some) ∙ ap (λ t. decimal_of n.negative t (power_of n)) is

  pub value_exact : (p : ℤ) → p ≡ shifted_by (exponent_value n.exponent) → record { negative = n.negative; digits = s; power = p } ≡ value n
  value_exact p p_is = ap (λ q. record { negative = n.negative; digits = s; power = q }) (p_is ∙ sym power_is) ∙ value_is

  pub value_fits : (p : ℤ) → p ≡ shifted_by (exponent_value n.exponent) → FitsSigned w64 p → IsTrue (in_range (value n))
  value_fits p p_is fits = subst (λ q. IsTrue (power_fits power_width q)) (ap (λ (d : Decimal). d.power) (value_exact p p_is))
      (fitting_power p fits)

  -- by the exponent that is cut to the cap
  module _ (short : length n.fraction < 2 ^ 64) (few : zeros < 2 ^ 64) where
    harmless : FitsSigned w64 (shifted_by (capped n.exponent)) ⊎ FitsSigned w64 (shifted_by (exponent_value n.exponent))
        → capped n.exponent ≡ exponent_value n.exponent
    harmless fits = cap_harmless n.exponent (length n.fraction) zeros short few fits

    exact_power : (p : ℤ) → p ≡ shifted_by (capped n.exponent) → FitsSigned w64 p → p ≡ shifted_by (exponent_value n.exponent)
    exact_power p p_is fits = p_is ∙ ap shifted_by (harmless (inl (subst (FitsSigned w64) p_is fits)))

    pub value_kept : (p : ℤ) → p ≡ shifted_by (capped n.exponent) → FitsSigned w64 p
        → record { negative = n.negative; digits = s; power = p } ≡ value n
    value_kept p p_is fits = value_exact p (exact_power p p_is fits)

    pub value_in : (p : ℤ) → p ≡ shifted_by (capped n.exponent) → FitsSigned w64 p → IsTrue (in_range (value n))
    value_in p p_is fits = value_fits p (exact_power p p_is fits) fits

    pub value_out : ¬ FitsSigned w64 (shifted_by (capped n.exponent)) → in_range (value n) ≡ false
    value_out out = refuted (in_range (value n)) (λ fits.
        let real : FitsSigned w64 (shifted_by (exponent_value n.exponent)) =
        subst (FitsSigned w64) (sym (ap (λ (d : Decimal). d.power) value_is) ∙ power_is) (power_within (value n).power fits) in
        out (subst (λ e. FitsSigned w64 (shifted_by e)) (sym (harmless (inr real))) real))

-- the power of few digits without an exponent, as the code computes it
pub power_few : (zeros fraction : ℕ) → zeros ≤ 24 → fraction ≤ 24 → to_z w64 (of_z w64 (to_z w64 zeros -ℤ to_z w64 fraction)) ≡ shifted
    (pos 0) fraction zeros
power_few zeros fraction h k = omega (arith, ints, h, k)

few_fits : (z : ℤ) (zeros fraction : ℕ) → z ≡ (pos 0 -ℤ pos fraction) +ℤ pos zeros → zeros ≤ 24 → fraction ≤ 24 → FitsSigned w64 z
few_fits (pos n) zeros fraction e h k = record { sfits = omega (arith, ints, e, h, k) }
few_fits (negsuc n) zeros fraction e h k = record { sfits = omega (arith, ints, e, h, k) }

pub power_few_fits : (zeros fraction : ℕ) → zeros ≤ 24 → fraction ≤ 24 → FitsSigned w64 (shifted (pos 0) fraction zeros)
power_few_fits zeros fraction h k = few_fits (shifted (pos 0) fraction zeros) zeros fraction refl h k

-- the power of few digits and an exponent that is near 0
near_fits : (z e : ℤ) (zeros fraction : ℕ) → z ≡ (e -ℤ pos fraction) +ℤ pos zeros → zeros ≤ 24 → fraction ≤ 24
    → neg_ℤ (pos near_cap) ≤ℤ e → e ≤ℤ pos near_cap → FitsSigned w64 z
near_fits (pos n) e stripped fraction is h k low high = record { sfits = omega (arith, ints, is, h, k, low, high) }
near_fits (negsuc n) e stripped fraction is h k low high = record { sfits = omega (arith, ints, is, h, k, low, high) }

pub power_near_fits : (e : ℤ) (zeros fraction : ℕ) → zeros ≤ 24 → fraction ≤ 24 → neg_ℤ (pos near_cap) ≤ℤ e → e ≤ℤ pos near_cap
    → FitsSigned w64 (shifted e fraction zeros)
power_near_fits e stripped fraction h k low high = near_fits (shifted e fraction stripped) e stripped fraction refl h k low high

-- that power, as the code computes it
pub power_near : (e : ℤ) (zeros fraction : ℕ) → zeros ≤ 24 → fraction ≤ 24 → neg_ℤ (pos near_cap) ≤ℤ e → e ≤ℤ pos near_cap
    → to_z w64 (of_z w64 (to_z w64 (of_z w64 (to_z w64 (of_z w64 e) -ℤ to_z w64 fraction)) +ℤ to_z w64 zeros)) ≡ shifted e fraction zeros
power_near e stripped fraction h k low high = omega (arith, ints, h, k, low, high)

-- ---- from what was read to the numeral

pub reads_number : (text : List ℕ) (n : Numeral) (x : Canonical) → Spells n text → ReadsNumeral n (Ok x) → Reads text (Ok x)
reads_number text n x s r = (n, s, sym r.0, subst (λ (d : Decimal). IsTrue (in_range d)) (sym r.0) r.1)

pub memory_refused : (n : Numeral) (r : Result Canonical LiteralError) → IsErrAnd r (λ e. e ≡ OutOfMemory) → IsTrue (in_range (value n))
    → ReadsNumeral n r
memory_refused n (Ok x) h fits = absurd h
memory_refused n (Err OutOfRange) h fits = absurd (cc)
memory_refused n (Err OutOfMemory) h fits = fits

reads_error : (text : List ℕ) (n : Numeral) (e : LiteralError) → Spells n text → ReadsNumeral n (Err e) → Reads text (Err (of_literal e))
reads_error text n OutOfRange s r = (n, s, r)
reads_error text n OutOfMemory s r = (value n, (n, s, refl, r))

pub refused_so : (text : List ℕ) (n : Numeral) (l : LiteralError) (r : Result Canonical JsonNumberError)
    → IsErrAnd r (λ e. e ≡ of_literal l) → Spells n text → ReadsNumeral n (Err l) → Reads text r
refused_so text n l (Ok x) h s k = absurd h
refused_so text n l (Err e) h s k = subst (λ (x : JsonNumberError). Reads text (Err x)) (sym h) (reads_error text n l s k)

-- no out of memory is passed on where there is none
pub refused_short : (l : LiteralError) (r : Result Canonical JsonNumberError) → IsErrAnd r (λ e. e ≡ of_literal l) → ¬ (l ≡ OutOfMemory)
    → ¬ (r ≡ Err number.OutOfMemory)
refused_short l (Ok x) h never is = absurd h
refused_short OutOfMemory (Err e) h never is = never refl
refused_short OutOfRange (Err e) h never is = absurd (cc)
