-- Texts of numbers that are those of their decimals.
use Rattle.std.proofs.Common.{◌≡◌, ◌≢◌, ℕ, ℤ, zero, suc, ◌+◌, ◌-◌, ◌<◌, ◌≤◌, ◌==◌, Bool, true, false, List, [], ◌∷◌, ◌++◌, length, take, drop, get_or}
use Rattle.std.proofs.Common.{replicate, pos, negsuc, neg_ℤ, None, Some, Option, ◌⊎◌, inl, inr, true≢false, IsTrue, refl, sym, ap, ◌∙◌, subst, arith, append-nil, append_assoc, length-append}
use Rattle.std.specs.Prelude.{◌+ℤ◌, ◌-ℤ◌, int_lt, nat_lt, FitsSigned}
use Rattle.std.specs.Int.{w64}
use Rattle.std.specs.Option.{is_some}
use Rattle.std.proofs.lemmas.Bool.Decides.{nat_tests}
use Rattle.std.proofs.lemmas.Int.{ints}
use Rattle.std.proofs.lemmas.List.{take_at, drop_at, get_or_append_left, get_or-append_right}
use Rattle.tinyjson_number.specs.Decimal.{Decimal, significant, before_stripped, strip_leading, strip_trailing, trailing_zeros}
use Rattle.tinyjson_number.specs.Numeral.{Numeral, AreDigits, fraction_text, minus_text, spelling, value, in_range}
use Rattle.tinyjson_number.specs.Reading.{exponent_of, numeral_of, plain_numeral}
use Rattle.tinyjson_number.specs.declared.parse.ExponentParts.{ExponentParts}
use Rattle.tinyjson_number.specs.declared.parse.NumberParts.{NumberParts}
use Rattle.tinyjson_number.specs.Text.{decimal_text, magnitude_text, plain_text}
use Rattle.tinyjson_number.specs.Normal.{IsNormal}
use Rattle.tinyjson_number.specs.private.Power.{shifted}
use Rattle.tinyjson_number.proofs.Buffers.{digits_text}
use Rattle.tinyjson_number.proofs.Readings.{power_few_fits, value_exact, value_fits}
use Rattle.tinyjson_number.proofs.Strips.{length_trailing, strip_leading_none, strip_trailing_none, tail_is}

-- ---- the forms of a text without an exponent

near_text : (s : List ℕ) (power : ℤ) (m : ℕ) → m ≤ 309 → magnitude_text s power (pos m) ≡ plain_text s power (pos m)
near_text s power m h = let far : nat_lt 309 m ≡ false = grind (arith, nat_tests) in rw far refl

whole_text : (s : List ℕ) (n m : ℕ) → plain_text s (pos n) (pos m) ≡ s ++ replicate n 48
whole_text s n m = let below : nat_lt n 0 ≡ false = grind (arith, nat_tests) in rw below refl

mixed_text : (s : List ℕ) (k m : ℕ) → plain_text s (negsuc k) (pos (suc m)) ≡ take (suc m) s ++ (46 ∷ drop (suc m) s)
mixed_text s k m = let before : nat_lt (suc m) 1 ≡ false = grind (arith, nat_tests) in rw before refl

minus_room : (b : Bool) → length (minus_text b) ≤ 1
minus_room true = omega arith
minus_room false = omega arith

-- ---- digits that do not begin with 0

before_some : (d : ℕ) (es : List ℕ) → d ≢ 48 → 0 < length (before_stripped d es)
before_some d [] h = let other : (d == 48) ≡ false = grind (arith, nat_tests) in rw other (omega arith)
before_some d (e ∷ es) h = omega arith

stripped_some : (w : List ℕ) → 0 < length w → get_or w 0 0 ≢ 48 → 0 < length (strip_trailing w)
stripped_some [] some h = absurd (omega arith)
stripped_some (d ∷ ds) some h = before_some d (strip_trailing ds) h

module _ (negative : Bool) (w : List ℕ) (some : 0 < length w) (first : get_or w 0 0 ≢ 48) where
  -- without a fraction
  module _ (few : length w ≤ 22) where
    abbrev whole : Numeral
    whole = plain_numeral negative w []

    abbrev kept : List ℕ
    kept = strip_trailing w

    abbrev zeros : ℕ
    zeros = trailing_zeros w

    kept_is : kept ≡ significant (w ++ [])
    kept_is = ap strip_trailing (sym (strip_leading_none w first)) ∙ ap significant (sym (append-nil w))

    kept_some : 0 < length kept
    kept_some = stripped_some w some first

    zeros_are : zeros ≡ trailing_zeros (w ++ [])
    zeros_are = ap trailing_zeros (sym (append-nil w))

    power_is : pos zeros ≡ shifted (pos 0) 0 zeros
    power_is = omega (arith, ints)

    whole_value : record { negative = negative; digits = kept; power = pos zeros } ≡ value whole
    whole_value = value_exact whole kept zeros kept_is kept_some zeros_are (pos zeros) power_is

    length_is : length kept + zeros ≡ length w
    length_is = omega (arith, length_trailing w)

    whole_is : decimal_text (value whole) ≡ spelling whole
    whole_is = ap decimal_text (sym whole_value)
        ∙ (digits_text (record { negative = negative; digits = kept; power = pos zeros }) kept_some
        ∙ ap (λ t. minus_text negative ++ t) (near_text kept (pos zeros) (length kept + zeros) (omega (arith, length_is, few))
        ∙ (whole_text kept zeros (length kept + zeros) ∙ (sym (tail_is w) ∙ sym (append-nil w)))))

    pub whole_normal : IsNormal whole
    whole_normal = record {
      no_exponent = refl;
      text = whole_is;
      fits = value_fits whole kept zeros kept_is kept_some zeros_are (pos zeros) power_is (record { sfits = omega (arith, ints, length_is, few) });
      short = omega (arith, length-append (minus_text negative) (w ++ []), length-append w [], minus_room negative, few);
    }

  -- with one that does not end with 0
  module _ (d : ℕ) (ds : List ℕ) (last : get_or (d ∷ ds) (length (d ∷ ds) - 1) 0 ≢ 48) (few : length w + length (d ∷ ds) ≤ 22) where
    abbrev fraction : List ℕ
    fraction = d ∷ ds

    abbrev mixed : Numeral
    mixed = plain_numeral negative w fraction

    abbrev digits : List ℕ
    digits = w ++ fraction

    bare_front : get_or digits 0 0 ≢ 48
    bare_front h = first (sym (get_or_append_left w fraction 0 0 some) ∙ h)

    bare_end : get_or digits (length digits - 1) 0 ≢ 48
    bare_end h = grind (arith, length-append, get_or-append_right)

    digits_are : digits ≡ significant digits
    digits_are = sym (ap strip_trailing (strip_leading_none digits bare_front) ∙ strip_trailing_none digits bare_end)

    digits_some : 0 < length digits
    digits_some = omega (arith, some, length-append w fraction)

    none_left : 0 ≡ trailing_zeros digits
    none_left = omega (arith, ap length (strip_trailing_none digits bare_end))

    power_mixed : negsuc (length ds) ≡ shifted (pos 0) (length fraction) 0
    power_mixed = omega (arith, ints)

    mixed_value : record { negative = negative; digits = digits; power = negsuc (length ds) } ≡ value mixed
    mixed_value = value_exact mixed digits 0 digits_are digits_some none_left (negsuc (length ds)) power_mixed

    point_is : pos (length digits) +ℤ negsuc (length ds) ≡ pos (length w)
    point_is = omega (arith, ints, length-append w fraction)

    shown : (m : ℕ) → m ≡ length w → plain_text digits (negsuc (length ds)) (pos m) ≡ w ++ (46 ∷ fraction)
    shown zero e = absurd (omega (arith, e, some))
    shown (suc m) e = mixed_text digits (length ds) m
        ∙ (λ i. take_at w fraction (suc m) (sym e) i ++ (46 ∷ drop_at w fraction (suc m) (sym e) i))

    mixed_is : decimal_text (value mixed) ≡ spelling mixed
    mixed_is = ap decimal_text (sym mixed_value)
        ∙ (digits_text (record { negative = negative; digits = digits; power = negsuc (length ds) }) digits_some
        ∙ ap (λ t. minus_text negative ++ t) (ap (magnitude_text digits (negsuc (length ds))) point_is
        ∙ (near_text digits (negsuc (length ds)) (length w) (omega (arith, few)) ∙ (shown (length w) refl
        ∙ ap (λ t. w ++ t) (sym (append-nil (46 ∷ fraction)))))))

    pub mixed_normal : IsNormal mixed
    mixed_normal = record {
      no_exponent = refl;
      text = mixed_is;
      fits = value_fits mixed digits 0 digits_are digits_some none_left (negsuc (length ds)) power_mixed
          (record { sfits = omega (arith, ints, few) });
      short = omega (
        arith,
        length-append (minus_text negative) (w ++ (fraction_text fraction ++ [])),
        length-append w (fraction_text fraction ++ []),
        length-append (fraction_text fraction) [],
        minus_room negative,
        few,
      );
    }

-- ---- the parts of a number

no_exponent : (o : Option ExponentParts) → false ≡ is_some o → exponent_of o ≡ None
no_exponent None h = refl
no_exponent (Some e) h = absurd (true≢false (sym h))

module _ (p : NumberParts) (none : false ≡ is_some p.exponent) (some : 0 < length p.integer.now) (first : get_or p.integer.now 0 0 ≢ 48)
    (few : length p.integer.now + length p.fraction.now ≤ 22) where
  same_numeral : (f : List ℕ) → f ≡ p.fraction.now → plain_numeral p.negative p.integer.now f ≡ numeral_of p
  same_numeral f e = λ i. record {
    negative = p.negative;
    integer = p.integer.now;
    fraction = e i;
    exponent = sym (no_exponent p.exponent none) i;
  }

  by_fraction : (f : List ℕ) → f ≡ p.fraction.now → (length f ≡ 0) ⊎ (get_or f (length f - 1) 0 ≢ 48) → IsNormal (numeral_of p)
  by_fraction [] e ends =
      subst IsNormal (same_numeral [] e) (whole_normal p.negative p.integer.now some first (omega (arith, few)))
  by_fraction (d ∷ ds) e ends = elim ends [
    | inl a ↦ absurd (omega (arith, a))
    | inr b ↦ subst IsNormal (same_numeral (d ∷ ds) e)
        (mixed_normal p.negative p.integer.now some first d ds b (omega (arith, few, ap length e)))
  ]

  pub normal_parts : (length p.fraction.now ≡ 0) ⊎ (get_or p.fraction.now (length p.fraction.now - 1) 0 ≢ 48) → IsNormal (numeral_of p)
  normal_parts ends = by_fraction p.fraction.now refl ends
