-- The text of a decimal spells a numeral with that value.
use Rattle.std.proofs.Common.{◌≡◌, ◌≢◌, ℕ, zero, suc, ◌+◌, ◌-◌, ◌<◌, Bool, true, false, List, [], ◌∷◌, ◌++◌, length, get_or, take, drop}
use Rattle.std.proofs.Common.{replicate, refl, sym, ap, ◌∙◌, arith, append-nil, length-append, IsTrue, ℤ, pos, negsuc, neg_ℤ, ◌+ℤ◌, ◌-ℤ◌}
use Rattle.std.proofs.Common.{Option, Some, None}
use Rattle.std.specs.Prelude.{unsigned_abs, int_lt, int_le, ◌^◌, ◌&&◌}
use mir.Val.{hbits}
use Rattle.std.proofs.lemmas.Nat.{pow_pos}
use Rattle.std.specs.Int.{Width}
use Rattle.std.proofs.lemmas.Bool.{cond_both}
use Rattle.std.proofs.Math.Dec.{eqb-suc-zero}
use Rattle.std.proofs.lemmas.Bool.Decides.{nat_tests}
use Rattle.std.proofs.lemmas.Int.{ints}
use Rattle.std.proofs.lemmas.List.{get_or_append_left, length-replicate, take-append-drop, length-drop, length-take-le, get_or-take}
use Rattle.tinyjson_number.specs.Decimal.{Decimal, strip_leading, strip_trailing, significant, trailing_zeros, decimal_of}
use Rattle.tinyjson_number.specs.Numeral.{numeral, Numeral, Exponent, IsNumeral, IsExponent, AreDigits, minus_text, fraction_text}
use Rattle.tinyjson_number.specs.Numeral.{exponent_text, spelling, has_leading_zero, exponent_value, value, fits_in, power_fits}
use Rattle.tinyjson_number.specs.Text.{natural_text, integer_text, plain_text, scientific_text, is_far, magnitude_text, decimal_text}
use Rattle.tinyjson_number.specs.Canonical.{IsDecimalAt, is_canonical_at}
use Rattle.tinyjson_number.proofs.Strips.{strip_leading_none, strip_trailing_append_none, strip_trailing_append_some, strip_zeros}
use Rattle.tinyjson_number.proofs.Strips.{strip_trailing_none}
use Rattle.tinyjson_number.proofs.Naturals.{natural}
use Rattle.tinyjson_number.proofs.Forms.{form, zero_form}

-- ---- zeros round digits

strip_leading_zeros : (a : ℕ) (xs : List ℕ) → strip_leading (replicate a 48 ++ xs) ≡ strip_leading xs
strip_leading_zeros zero xs = refl
strip_leading_zeros (suc a) xs = strip_leading_zeros a xs

pub decimal_of_some : (g : Bool) (ds : List ℕ) (p : ℤ) → 0 < length ds → decimal_of g ds p ≡ record { negative = g; digits = ds; power = p }
decimal_of_some g [] p h = absurd (omega arith)
decimal_of_some g (d ∷ ds) p h = refl

module _ (ds : List ℕ) (some : 0 < length ds) (first : get_or ds 0 0 ≢ 48) (last : get_or ds (length ds - 1) 0 ≢ 48) where
  kept : (b : ℕ) → strip_trailing (ds ++ replicate b 48) ≡ ds
  kept b = strip_trailing_append_none ds (replicate b 48) (strip_zeros b) ∙ strip_trailing_none ds last

  padded : (a b : ℕ) → significant (replicate a 48 ++ (ds ++ replicate b 48)) ≡ ds
  padded a b = grind (arith, strip_leading_zeros, strip_leading_none, get_or_append_left, kept)

  padding : (a b : ℕ) → trailing_zeros (replicate a 48 ++ (ds ++ replicate b 48)) ≡ b
  padding a b = grind (arith, strip_trailing_append_some, kept, length-append, length-replicate)

  valued : (g : Bool) (w f : List ℕ) (x : Option Exponent) (a b : ℕ) (p : ℤ) → w ++ f ≡ replicate a 48 ++ (ds ++ replicate b 48)
      → p ≡ (exponent_value x -ℤ pos (length f)) +ℤ pos b → value (numeral g w f x) ≡ record { negative = g; digits = ds; power = p }
  unfolding value
  valued g w f x a b p e ep = search (e, padded, padding, ep, decimal_of_some)

-- ---- the four forms

-- a numeral of the grammar that xs spells, with that value
pub record SpellsDecimal (d : Decimal) (xs : List ℕ) : Type 0 where
  pub numeral : Numeral
  pub is : IsNumeral numeral
  pub plain : has_leading_zero numeral.integer ≡ false
  pub value : value numeral ≡ d
  pub text : spelling numeral ≡ xs

pub digits_replicate : (k : ℕ) → AreDigits (replicate k 48)
digits_replicate zero = tt
digits_replicate (suc k) = (refl, digits_replicate k)

pub digits_join : (xs ys : List ℕ) → AreDigits xs → AreDigits ys → AreDigits (xs ++ ys)
digits_join [] ys h k = k
digits_join (d ∷ xs) ys h k = (h.0, digits_join xs ys h.1 k)

digits_take : (n : ℕ) (xs : List ℕ) → AreDigits xs → AreDigits (take n xs)
digits_take zero xs h = tt
digits_take (suc n) [] h = tt
digits_take (suc n) (d ∷ xs) h = (h.0, digits_take n xs h.1)

digits_drop : (n : ℕ) (xs : List ℕ) → AreDigits xs → AreDigits (drop n xs)
digits_drop zero xs h = h
digits_drop (suc n) [] h = tt
digits_drop (suc n) (d ∷ xs) h = digits_drop n xs h.1

no_leading : (xs : List ℕ) → get_or xs 0 0 ≢ 48 → has_leading_zero xs ≡ false
no_leading (d ∷ e ∷ ds) h = grind (arith, nat_tests)
no_leading _ h = refl

pub fraction_some : (xs : List ℕ) → 0 < length xs → fraction_text xs ≡ 46 ∷ xs
fraction_some [] h = absurd (omega arith)
fraction_some (d ∷ xs) h = refl

abbrev scientific_exponent : ℤ → Exponent
scientific_exponent (pos n) = record { letter = 101; sign = None; digits = natural_text n }
scientific_exponent (negsuc n) = record { letter = 101; sign = Some 45; digits = natural_text (suc n) }

scientific_is : (z : ℤ) → IsExponent (scientific_exponent z)
scientific_is (pos n) = record { letter = refl; sign = tt; digits = (natural n).are; some_digit = (natural n).some }
scientific_is (negsuc n) = record { letter = refl; sign = refl; digits = (natural (suc n)).are; some_digit = (natural (suc n)).some }

scientific_value : (z : ℤ) → exponent_value (Some (scientific_exponent z)) ≡ z
scientific_value (pos n) = ap pos (natural n).value
scientific_value (negsuc n) = ap (λ k. neg_ℤ (pos k)) (natural (suc n)).value

text_of_scientific : (z : ℤ) → exponent_text (Some (scientific_exponent z)) ≡ 101 ∷ integer_text z
text_of_scientific (pos n) = refl
text_of_scientific (negsuc n) = refl

module _ (g : Bool) (ds : List ℕ) (e : ℤ) (all : AreDigits ds) (some : 0 < length ds) (first : get_or ds 0 0 ≢ 48)
    (last : get_or ds (length ds - 1) 0 ≢ 48) where
  abbrev d : Decimal
  d = record { negative = g; digits = ds; power = e }

  abbrev p : ℤ
  p = pos (length ds) +ℤ e

  short_take : length (take 1 ds) ≡ 1
  short_take = length-take-le 1 ds some

  first_take : (n : ℕ) → 0 < n → get_or (take n ds) 0 0 ≢ 48
  first_take n h k = first (sym (get_or-take n ds 0 0 h) ∙ k)

  integer_parts : (n : ℕ) → take n ds ++ drop n ds ≡ replicate 0 48 ++ (ds ++ replicate 0 48)
  integer_parts n = take-append-drop n ds ∙ sym (append-nil ds)

  spelled_far : SpellsDecimal d (minus_text g ++ scientific_text ds p)
  spelled_far = record {
    numeral = numeral g (take 1 ds) (drop 1 ds) (Some (scientific_exponent (p -ℤ pos 1)));
    is = record {
      integer = digits_take 1 ds all;
      some_digit = omega (arith, short_take);
      fraction = digits_drop 1 ds all;
      exponent = scientific_is (p -ℤ pos 1);
    };
    plain = no_leading (take 1 ds) (first_take 1 (omega arith));
    value = valued ds some first last g (take 1 ds) (drop 1 ds) (Some (scientific_exponent (p -ℤ pos 1))) 0 0 e (integer_parts 1)
        (rw (scientific_value (p -ℤ pos 1)) (omega (arith, ints, length-drop 1 ds)));
    text = ap (λ z. minus_text g ++ (take 1 ds ++ (fraction_text (drop 1 ds) ++ z))) (text_of_scientific (p -ℤ pos 1));
  }

  spelled_small : int_lt e (pos 0) ≡ true → int_lt p (pos 1) ≡ true → SpellsDecimal d
      (minus_text g ++ (48 ∷ 46 ∷ (replicate (unsigned_abs p) 48 ++ ds)))
  spelled_small low small = let l : length (replicate (unsigned_abs p) 48 ++ ds) ≡ unsigned_abs p + length ds =
      omega (arith, length-append (replicate (unsigned_abs p) 48) ds, length-replicate {A = ℕ} (unsigned_abs p) 48) in
      record {
        numeral = numeral g (48 ∷ []) (replicate (unsigned_abs p) 48 ++ ds) None;
        is = grind (arith, digits_join, digits_replicate);
        plain = refl;
        value = valued ds some first last g (48 ∷ []) (replicate (unsigned_abs p) 48 ++ ds) None (suc (unsigned_abs p)) 0 e
            (ap (λ z. 48 ∷ (replicate (unsigned_abs p) 48 ++ z)) (sym (append-nil ds))) (grind (arith, ints, l));
        text = ap (λ z. minus_text g ++ (48 ∷ z)) (append-nil _ ∙ fraction_some _ (omega (arith, l, some)));
      }

  spelled_mid : int_lt e (pos 0) ≡ true → int_lt p (pos 1) ≡ false → SpellsDecimal d
      (minus_text g ++ (take (unsigned_abs p) ds ++ (46 ∷ drop (unsigned_abs p) ds)))
  spelled_mid low big = let n : ℕ = unsigned_abs p in
      let is_pos : 0 < n = grind (arith, ints) in
      let below : n < length ds = grind (arith, ints) in
      let split : e ≡ (pos 0 -ℤ pos (length ds - n)) +ℤ pos 0 = grind (arith, ints) in
      record {
        numeral = numeral g (take n ds) (drop n ds) None;
        is = grind (arith, digits_take, digits_drop);
        plain = no_leading (take n ds) (first_take n is_pos);
        value = valued ds some first last g (take n ds) (drop n ds) None 0 0 e (integer_parts n) (rw (length-drop n ds) split);
        text = ap (λ z. minus_text g ++ (take n ds ++ z)) (append-nil _ ∙ fraction_some (drop n ds) (omega (arith, length-drop n ds)));
      }

  spelled_whole : int_lt e (pos 0) ≡ false → SpellsDecimal d (minus_text g ++ (ds ++ replicate (unsigned_abs e) 48))
  spelled_whole high = let n : ℕ = unsigned_abs e in
      record {
        numeral = numeral g (ds ++ replicate n 48) [] None;
        is = grind (arith, digits_join, digits_replicate, length-append);
        plain = no_leading (ds ++ replicate n 48) (λ k. first (sym (get_or_append_left ds (replicate n 48) 0 0 some) ∙ k));
        value = valued ds some first last g (ds ++ replicate n 48) [] None 0 n e (append-nil _) (grind (arith, ints));
        text = ap (λ z. minus_text g ++ z) (append-nil _);
      }

  pub spelled_some : SpellsDecimal d (minus_text g ++ magnitude_text ds e p)
  spelled_some = cond_both (is_far p) (scientific_text ds p) (plain_text ds e p) (λ z. SpellsDecimal d (minus_text g ++ z))
      (λ far. spelled_far) (λ near. cond_both (int_lt e (pos 0)) _ _ (λ z. SpellsDecimal d (minus_text g ++ z))
      (λ low. cond_both (int_lt p (pos 1)) _ _ (λ z. SpellsDecimal d (minus_text g ++ z)) (spelled_small low) (spelled_mid low))
      spelled_whole)

-- ---- any decimal

no_digits : (g : Bool) (ds : List ℕ) (e : ℤ) → ds ≡ [] → (g ≡ false) × (e ≡ pos 0)
    → value (numeral false (48 ∷ []) [] None) ≡ record { negative = g; digits = ds; power = e }
unfolding value
no_digits g ds e h z = λ i. record { negative = sym z.0 i; digits = sym h i; power = sym z.1 i }

spelled_digits : (width : Width) (g : Bool) (ds : List ℕ) (e : ℤ) → IsDecimalAt width (record { negative = g; digits = ds; power = e })
    → SpellsDecimal (record { negative = g; digits = ds; power = e }) (decimal_text (record { negative = g; digits = ds; power = e }))
unfolding decimal_text
spelled_digits width g [] e h = record {
  numeral = numeral false (48 ∷ []) [] None;
  is = record { integer = (refl, tt); some_digit = omega arith; fraction = tt; exponent = tt };
  plain = refl;
  value = no_digits g [] e refl (zero_form width g e h);
  text = refl;
}
spelled_digits width g (c ∷ cs) e h = let f = form width g c cs e h in
    rw (eqb-suc-zero (length cs)) (spelled_some g (c ∷ cs) e f.digits (omega arith) f.first f.last)

pub decimal_spelled : (width : Width) (d : Decimal) → IsDecimalAt width d → SpellsDecimal d (decimal_text d)
decimal_spelled width d h = spelled_digits width d.negative d.digits d.power h

-- 0 has the power 0
zero_between : (m : ℕ) → 0 < m → (int_le (neg_ℤ (pos m)) (pos 0) && int_lt (pos 0) (pos m)) ≡ true
zero_between m h = grind (arith, ints)

zero_fits : (width : Width) → IsTrue (power_fits width (pos 0))
unfolding power_fits
zero_fits width = zero_between (2 ^ hbits width) (pow_pos (hbits width))

digits_fit : (width : Width) (g : Bool) (ds : List ℕ) (e : ℤ) → IsTrue (is_canonical_at width g ds e) → IsTrue (power_fits width e)
digits_fit width g [] e h = rw (zero_form width g e h).1 (zero_fits width)
digits_fit width g (c ∷ cs) e h = (form width g c cs e h).fits

pub decimal_fits : (width : Width) (d : Decimal) → IsDecimalAt width d → IsTrue (fits_in width d)
decimal_fits width d h = digits_fit width d.negative d.digits d.power h
