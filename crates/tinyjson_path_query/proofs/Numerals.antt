-- A text is a number exactly where one is found in it.
use Rattle.std.proofs.Common.{◌≡◌, ℕ, ◌<◌, Bool, true, false, ◌==◌, cond, List, [], ◌∷◌, ◌++◌, length, Option, Some, None}
use Rattle.std.proofs.Common.{IsTrue, refl, sym, ap, ◌∙◌, subst, arith, append-nil, option_and_then}
use Rattle.std.proofs.lemmas.Bool.{cond-true, cond-false, eqb-true}
use Rattle.std.proofs.lemmas.Bool.Decides.{nat_tests}
use Rattle.std.specs.Prelude.{IfSome}
use Rattle.std.specs.Char.{is_ascii_digit}
use Rattle.tinyjson.specs.Numeral.{Numeral, Exponent, numeral, AreDigits, IsExponent, IsNumeral, has_leading_zero}
use Rattle.tinyjson.specs.Numeral.{is_exponent_letter, is_sign, sign_text, fraction_text, exponent_text, minus_text, value, in_range}
use Rattle.tinyjson.specs.Number.{Decimal, Spells, IsNumberText}
use Rattle.tinyjson_path_query.specs.Numerals.{digit_run, power_end, signed_end, exponent_end, fraction_end, point_end, whole_end}
use Rattle.tinyjson_path_query.specs.Numerals.{spelled_numeral, ranged, spelled_decimal}
use Rattle.tinyjson_path_query.proofs.Finds.{Finds, finds_none, finds_some, finds_cond, finds_then, finds_as}

-- ---- what is found is a number

-- the text is these digits and a rest
record IsRun (xs : List ℕ) (p : List ℕ × List ℕ) : Type 0 where
  digits : AreDigits p.0
  text : p.0 ++ p.1 ≡ xs

run_sound : (xs : List ℕ) → IsRun xs (digit_run xs)
run_sound [] = record { digits = tt; text = refl }
run_sound (c ∷ cs) = by (is_ascii_digit c) refl (run_sound cs)
  where
    by : (b : Bool) → is_ascii_digit c ≡ b → IsRun cs (digit_run cs)
        → IsRun (c ∷ cs) (cond b (c ∷ (digit_run cs).0, (digit_run cs).1) ([], c ∷ cs))
    by true e h = record { digits = (e, h.digits); text = ap (λ ds. c ∷ ds) h.text }
    by false e h = record { digits = tt; text = refl }

-- the numeral ends with this exponent
record HasExponent (b : Bool) (ds fs xs : List ℕ) (n : Numeral) : Type 0 where
  exponent : Option Exponent
  is : numeral b ds fs exponent ≡ n
  formed : IfSome exponent IsExponent
  text : exponent_text exponent ≡ xs

power_sound : (b : Bool) (ds fs : List ℕ) (l : ℕ) (s : Option ℕ) (xs : List ℕ) (p : List ℕ × List ℕ) → IsTrue (is_exponent_letter l)
    → IfSome s (λ c. IsTrue (is_sign c)) → IsRun xs p → Finds (power_end b ds fs l s p) (HasExponent b ds fs (l ∷ (sign_text s ++ xs)))
power_sound b ds fs l s xs ([], rest) h k r = finds_none
power_sound b ds fs l s xs (e ∷ es, []) h k r = finds_some (record {
  exponent = Some (record { letter = l; sign = s; digits = e ∷ es });
  is = refl;
  formed = record { letter = h; sign = k; digits = r.digits; some_digit = omega arith };
  text = ap (λ ys. l ∷ (sign_text s ++ ys)) (sym (append-nil (e ∷ es)) ∙ r.text);
})
power_sound b ds fs l s xs (e ∷ es, c ∷ cs) h k r = finds_none

signed_sound : (b : Bool) (ds fs : List ℕ) (l : ℕ) (xs : List ℕ) → IsTrue (is_exponent_letter l)
    → Finds (signed_end b ds fs l xs) (HasExponent b ds fs (l ∷ xs))
signed_sound b ds fs l [] h = finds_none
signed_sound b ds fs l (c ∷ cs) h =
    finds_cond (is_sign c) (λ k. power_sound b ds fs l (Some c) cs (digit_run cs) h k (run_sound cs))
    (λ _. power_sound b ds fs l None (c ∷ cs) (digit_run (c ∷ cs)) h tt (run_sound (c ∷ cs)))

exponent_sound : (b : Bool) (ds fs xs : List ℕ) → Finds (exponent_end b ds fs xs) (HasExponent b ds fs xs)
exponent_sound b ds fs [] = finds_some (record { exponent = None; is = refl; formed = tt; text = refl })
exponent_sound b ds fs (c ∷ cs) = finds_cond (is_exponent_letter c) (λ h. signed_sound b ds fs c cs h) (λ _. finds_none)

-- the numeral has this fraction, and ends with this exponent
record HasFraction (b : Bool) (ds xs : List ℕ) (n : Numeral) : Type 0 where
  fraction : List ℕ
  exponent : Option Exponent
  is : numeral b ds fraction exponent ≡ n
  digits : AreDigits fraction
  formed : IfSome exponent IsExponent
  text : fraction_text fraction ++ exponent_text exponent ≡ xs

fraction_sound : (b : Bool) (ds cs : List ℕ) (p : List ℕ × List ℕ) → IsRun cs p → Finds (fraction_end b ds p) (HasFraction b ds (46 ∷ cs))
fraction_sound b ds cs ([], rest) r = finds_none
fraction_sound b ds cs (f ∷ fs, rest) r = finds_as (exponent_sound b ds (f ∷ fs) rest) (λ n h. record {
  fraction = f ∷ fs;
  exponent = h.exponent;
  is = h.is;
  digits = r.digits;
  formed = h.formed;
  text = ap (λ ys. 46 ∷ ((f ∷ fs) ++ ys)) h.text ∙ ap (λ ys. 46 ∷ ys) r.text;
})

point_sound : (b : Bool) (ds xs : List ℕ) → Finds (point_end b ds xs) (HasFraction b ds xs)
point_sound b ds [] =
    finds_some (record { fraction = []; exponent = None; is = refl; digits = tt; formed = tt; text = refl })
point_sound b ds (c ∷ cs) =
    finds_cond (c == 46)
    (λ e. finds_as (fraction_sound b ds cs (digit_run cs) (run_sound cs)) (λ n h. record {
      fraction = h.fraction;
      exponent = h.exponent;
      is = h.is;
      digits = h.digits;
      formed = h.formed;
      text = h.text ∙ ap (λ x. x ∷ cs) (sym (eqb-true c 46 e));
    }))
    (λ _. finds_as (exponent_sound b ds [] (c ∷ cs)) (λ n h. record {
      fraction = [];
      exponent = h.exponent;
      is = h.is;
      digits = tt;
      formed = h.formed;
      text = h.text;
    }))

-- the numeral is one of the grammar, and has this text behind its sign
record HasDigits (b : Bool) (xs : List ℕ) (n : Numeral) : Type 0 where
  digits : List ℕ
  fraction : List ℕ
  exponent : Option Exponent
  is : numeral b digits fraction exponent ≡ n
  formed : IsNumeral (numeral b digits fraction exponent)
  no_leading_zero : has_leading_zero digits ≡ false
  text : digits ++ (fraction_text fraction ++ exponent_text exponent) ≡ xs

whole_sound : (b : Bool) (xs : List ℕ) (p : List ℕ × List ℕ) → IsRun xs p → Finds (whole_end b p) (HasDigits b xs)
whole_sound b xs ([], rest) r = finds_none
whole_sound b xs (d ∷ ds, rest) r =
    finds_cond (has_leading_zero (d ∷ ds)) (λ _. finds_none) (λ z. finds_as (point_sound b (d ∷ ds) rest) (λ n h. record {
      digits = d ∷ ds;
      fraction = h.fraction;
      exponent = h.exponent;
      is = h.is;
      formed = record { integer = r.digits; some_digit = omega arith; fraction = h.digits; exponent = h.formed };
      no_leading_zero = z;
      text = ap (λ ys. (d ∷ ds) ++ ys) h.text ∙ r.text;
    }))

spelled : (b : Bool) (xs ys : List ℕ) (n : Numeral) → minus_text b ++ xs ≡ ys → HasDigits b xs n → Spells n ys
spelled b xs ys n e h = subst (λ m. Spells m ys) h.is (record {
  well_formed = h.formed;
  no_leading_zero = h.no_leading_zero;
  spelled = ap (λ zs. minus_text b ++ zs) h.text ∙ e;
})

pub numeral_sound : (xs : List ℕ) → Finds (spelled_numeral xs) (λ n. Spells n xs)
numeral_sound [] = finds_none
numeral_sound (c ∷ cs) =
    finds_cond (c == 45)
    (λ e. finds_as (whole_sound true cs (digit_run cs) (run_sound cs))
    (λ n h. spelled true cs (c ∷ cs) n (ap (λ x. x ∷ cs) (sym (eqb-true c 45 e))) h))
    (λ _. finds_as (whole_sound false (c ∷ cs) (digit_run (c ∷ cs)) (run_sound (c ∷ cs))) (λ n h. spelled false (c ∷ cs) (c ∷ cs) n refl h))

pub decimal_sound : (xs : List ℕ) → Finds (spelled_decimal xs) (IsNumberText xs)
decimal_sound xs = finds_then ranged _ (finds_as (numeral_sound xs) (λ n h.
    finds_cond (in_range (value n)) (λ r. finds_some (n, h, refl, r)) (λ _. finds_none)))

-- ---- each number is found

-- whether the text begins with a character that passes the test
abbrev starts : (ℕ → Bool) → List ℕ → Bool
starts test [] = false
starts test (c ∷ cs) = test c

run_before : (ds rest : List ℕ) → AreDigits ds → starts is_ascii_digit rest ≡ false → digit_run (ds ++ rest) ≡ (ds, rest)
run_before [] [] h e = refl
run_before [] (c ∷ cs) h e = cond-false (is_ascii_digit c) _ _ e
run_before (d ∷ ds) rest h e =
    cond-true (is_ascii_digit d) _ _ h.0 ∙ ap (λ p. (d ∷ p.0, p.1)) (run_before ds rest h.1 e)

run_all : (ds : List ℕ) → AreDigits ds → digit_run ds ≡ (ds, [])
run_all ds h = ap digit_run (sym (append-nil ds)) ∙ run_before ds [] h refl

digit_no_sign : (d : ℕ) → is_ascii_digit d ≡ true → is_sign d ≡ false
digit_no_sign d h = grind (arith, nat_tests)

digit_no_minus : (d : ℕ) → is_ascii_digit d ≡ true → (d == 45) ≡ false
digit_no_minus d h = grind (arith, nat_tests)

letter_no_digit : (c : ℕ) → is_exponent_letter c ≡ true → is_ascii_digit c ≡ false
letter_no_digit c h = grind (arith, nat_tests)

letter_no_point : (c : ℕ) → is_exponent_letter c ≡ true → (c == 46) ≡ false
letter_no_point c h = grind (arith, nat_tests)

power_complete : (b : Bool) (ds fs : List ℕ) (l : ℕ) (s : Option ℕ) (es : List ℕ) → AreDigits es → 0 < length es
    → power_end b ds fs l s (digit_run es) ≡ Some (numeral b ds fs (Some (record { letter = l; sign = s; digits = es })))
power_complete b ds fs l s [] h k = absurd (omega arith)
power_complete b ds fs l s (e ∷ es) h k = ap (power_end b ds fs l s) (run_all (e ∷ es) h)

signed_complete : (b : Bool) (ds fs : List ℕ) (l : ℕ) (s : Option ℕ) (es : List ℕ) → IfSome s (λ c. IsTrue (is_sign c)) → AreDigits es
    → 0 < length es
    → signed_end b ds fs l (sign_text s ++ es) ≡ Some (numeral b ds fs (Some (record { letter = l; sign = s; digits = es })))
signed_complete b ds fs l (Some c) es k h p = cond-true (is_sign c) _ _ k ∙ power_complete b ds fs l (Some c) es h p
signed_complete b ds fs l None [] k h p = absurd (omega arith)
signed_complete b ds fs l None (e ∷ es) k h p =
    cond-false (is_sign e) _ _ (digit_no_sign e h.0) ∙ power_complete b ds fs l None (e ∷ es) h p

exponent_complete : (b : Bool) (ds fs : List ℕ) (e : Option Exponent) → IfSome e IsExponent
    → exponent_end b ds fs (exponent_text e) ≡ Some (numeral b ds fs e)
exponent_complete b ds fs None h = refl
exponent_complete b ds fs (Some e) h =
    cond-true (is_exponent_letter e.letter) _ _ h.letter
    ∙ signed_complete b ds fs e.letter e.sign e.digits h.sign h.digits h.some_digit

exponent_starts : (e : Option Exponent) → IfSome e IsExponent → starts is_ascii_digit (exponent_text e) ≡ false
exponent_starts None h = refl
exponent_starts (Some e) h = letter_no_digit e.letter h.letter

point_complete : (b : Bool) (ds fs : List ℕ) (e : Option Exponent) → AreDigits fs → IfSome e IsExponent
    → point_end b ds (fraction_text fs ++ exponent_text e) ≡ Some (numeral b ds fs e)
point_complete b ds [] None h k = refl
point_complete b ds [] (Some e) h k =
    cond-false (e.letter == 46) _ _ (letter_no_point e.letter k.letter) ∙ exponent_complete b ds [] (Some e) k
point_complete b ds (f ∷ fs) e h k =
    ap (fraction_end b ds) (run_before (f ∷ fs) (exponent_text e) h (exponent_starts e k)) ∙ exponent_complete b ds (f ∷ fs) e k

point_starts : (fs : List ℕ) (e : Option Exponent) → IfSome e IsExponent
    → starts is_ascii_digit (fraction_text fs ++ exponent_text e) ≡ false
point_starts [] e k = exponent_starts e k
point_starts (f ∷ fs) e k = refl

whole_complete : (b : Bool) (ds fs : List ℕ) (e : Option Exponent) → IsNumeral (numeral b ds fs e) → has_leading_zero ds ≡ false
    → whole_end b (digit_run (ds ++ (fraction_text fs ++ exponent_text e))) ≡ Some (numeral b ds fs e)
whole_complete b [] fs e h z = absurd (omega (arith, h.some_digit))
whole_complete b (d ∷ ds) fs e h z =
    ap (whole_end b) (run_before (d ∷ ds) (fraction_text fs ++ exponent_text e) h.integer (point_starts fs e h.exponent))
    ∙ (cond-false (has_leading_zero (d ∷ ds)) _ _ z ∙ point_complete b (d ∷ ds) fs e h.fraction h.exponent)

numeral_found : (b : Bool) (ds fs : List ℕ) (e : Option Exponent) → IsNumeral (numeral b ds fs e) → has_leading_zero ds ≡ false
    → spelled_numeral (minus_text b ++ (ds ++ (fraction_text fs ++ exponent_text e))) ≡ Some (numeral b ds fs e)
numeral_found true ds fs e h z = whole_complete true ds fs e h z
numeral_found false [] fs e h z = absurd (omega (arith, h.some_digit))
numeral_found false (d ∷ ds) fs e h z =
    cond-false (d == 45) _ _ (digit_no_minus d h.integer.0) ∙ whole_complete false (d ∷ ds) fs e h z

pub numeral_complete : (xs : List ℕ) (n : Numeral) → Spells n xs → spelled_numeral xs ≡ Some n
numeral_complete xs n h =
    ap spelled_numeral (sym h.spelled) ∙ numeral_found n.negative n.integer n.fraction n.exponent h.well_formed h.no_leading_zero

pub decimal_complete : (xs : List ℕ) (d : Decimal) → IsNumberText xs d → spelled_decimal xs ≡ Some d
decimal_complete xs d (n, h, e, r) =
    ap (option_and_then ranged) (numeral_complete xs n h)
    ∙ (cond-true (in_range (value n)) _ _ (subst (λ x. in_range x ≡ true) (sym e) r) ∙ ap Some e)

-- a text without one
pub no_numeral : (xs : List ℕ) → ((n : Numeral) → ¬ Spells n xs) → spelled_decimal xs ≡ None
no_numeral xs h = by (spelled_numeral xs) refl
  where
    by : (o : Option Numeral) → spelled_numeral xs ≡ o → option_and_then ranged o ≡ None
    by None e = refl
    by (Some n) e = absurd (h n ((numeral_sound xs).at n e))

-- a number out of range
pub no_decimal : (xs : List ℕ) (n : Numeral) → Spells n xs → in_range (value n) ≡ false → spelled_decimal xs ≡ None
no_decimal xs n h r = ap (option_and_then ranged) (numeral_complete xs n h) ∙ cond-false (in_range (value n)) _ _ r
