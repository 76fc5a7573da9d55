-- The machine reads a numeral.
use Rattle.std.proofs.Common.{◌≡◌, ℕ, ◌<◌, Bool, true, false, List, [], ◌∷◌, ◌++◌, Option, Some, None, refl, ap, ◌∙◌, append_assoc}
use Rattle.std.proofs.Common.{append-nil, arith, length, ◌&&◌, ◌||◌, ◌==◌, not}
use Rattle.std.specs.Prelude.{IsTrue, IfSome}
use Rattle.std.specs.Char.{is_ascii_digit}
use Rattle.std.proofs.lemmas.Bool.{not-true}
use Rattle.tinyjson_grammar.specs.Tree.{Tree}
use Rattle.tinyjson_number.specs.Numeral.{numeral, Numeral, Exponent, IsNumeral, IsExponent, AreDigits, sign_text, minus_text}
use Rattle.tinyjson_number.specs.Numeral.{fraction_text, exponent_text, spelling, has_leading_zero, value, in_range, is_exponent_letter}
use Rattle.tinyjson_grammar.specs.Machine.{Rules, Frame, awaited, complete, step, run, end, end_plain, end_digits, step_digits, finish}
use Rattle.tinyjson_grammar.specs.Machine.{digits, Stage, integer, fraction, letter, exponent}
use Rattle.tinyjson_grammar.proofs.Accepts.Runs.{settle, ends_complete, end_complete, continues, Delimited, continues_digit}
use Rattle.tinyjson_grammar.proofs.Accepts.Runs.{continues_point, continues_letter, digit_is_not, digit_not_white, and_false}

abbrev power : ℕ → Option ℕ → List ℕ → Option Exponent
power l s ds = Some (record { letter = l; sign = s; digits = ds })

numeral_ends : (r : Rules) (fs : List Frame) (s : Stage) (n : Numeral) (xs : List ℕ) →
    ((c : ℕ) → continues c ≡ false → step_digits r fs s n c ≡ None) → end_digits r fs s n ≡ end_plain (finish r fs n) →
    (r.strict && not (in_range (value n))) ≡ false → Delimited xs →
    run r fs (digits s n) xs ≡ settle r (complete r.strict fs (Tree.number (value n)) true) xs
unfolding run step end
numeral_ends r fs s n [] h he hr d = rw (he, hr) (end_complete r r.strict fs (Tree.number (value n)))
numeral_ends r fs s n (c ∷ cs) h he hr d = rw (h c d, hr) (ends_complete r r.strict fs (Tree.number (value n)) c cs)

-- ---- digits

integer_digits : (r : Rules) (fs : List Frame) (g : Bool) (w ds xs : List ℕ) → AreDigits ds →
    run r fs (digits integer (numeral g w [] None)) (ds ++ xs) ≡ run r fs (digits integer (numeral g (w ++ ds) [] None)) xs
unfolding run step
integer_digits r fs g w [] xs h = rw (append-nil w)
integer_digits r fs g w (d ∷ ds) xs h = rw h.0 (rw (append_assoc w (d ∷ []) ds) at (integer_digits r fs g (w ++ d ∷ []) ds xs h.1))

fraction_digits : (r : Rules) (fs : List Frame) (g : Bool) (w f ds xs : List ℕ) → AreDigits ds →
    run r fs (digits fraction (numeral g w f None)) (ds ++ xs) ≡ run r fs (digits fraction (numeral g w (f ++ ds) None)) xs
unfolding run step
fraction_digits r fs g w f [] xs h = rw (append-nil f)
fraction_digits r fs g w f (d ∷ ds) xs h = rw h.0 (rw (append_assoc f (d ∷ []) ds) at (fraction_digits r fs g w (f ++ d ∷ []) ds xs h.1))

exponent_digits : (r : Rules) (fs : List Frame) (g : Bool) (w f : List ℕ) (l : ℕ) (s : Option ℕ) (es ds xs : List ℕ) → AreDigits ds →
    run r fs (digits exponent (numeral g w f (power l s es))) (ds ++ xs)
    ≡ run r fs (digits exponent (numeral g w f (power l s (es ++ ds)))) xs
unfolding run step
exponent_digits r fs g w f l s es [] xs h = rw (append-nil es)
exponent_digits r fs g w f l s es (d ∷ ds) xs h = rw h.0
    (rw (append_assoc es (d ∷ []) ds) at (exponent_digits r fs g w f l s (es ++ d ∷ []) ds xs h.1))

-- ---- the exponent

pub sign_no_digit : (c : ℕ) → IsTrue ((c == 43) || (c == 45)) → is_ascii_digit c ≡ false
sign_no_digit c h = grind arith

pub letter_no_digit : (c : ℕ) → IsTrue (is_exponent_letter c) → is_ascii_digit c ≡ false
letter_no_digit c h = grind arith

pub letter_no_point : (c : ℕ) → IsTrue (is_exponent_letter c) → (c == 46) ≡ false
letter_no_point c h = grind arith

power_digits : (r : Rules) (fs : List Frame) (g : Bool) (w f : List ℕ) (l : ℕ) (s : Option ℕ) (ds xs : List ℕ) → AreDigits ds
    → 0 < length ds → IfSome s (λ c. IsTrue ((c == 43) || (c == 45))) →
    run r fs (digits letter (numeral g w f (power l None []))) ((sign_text s ++ ds) ++ xs)
    ≡ run r fs (digits exponent (numeral g w f (power l s ds))) xs
unfolding run step
power_digits r fs g w f l None [] xs h p hs = absurd (omega arith)
power_digits r fs g w f l (Some c) [] xs h p hs = absurd (omega arith)
power_digits r fs g w f l None (d ∷ ds) xs h p hs = rw h.0 (exponent_digits r fs g w f l None (d ∷ []) ds xs h.1)
power_digits r fs g w f l (Some c) (d ∷ ds) xs h p hs =
    rw (sign_no_digit c hs, hs, h.0) (exponent_digits r fs g w f l (Some c) (d ∷ []) ds xs h.1)

-- the stage after the last character of a numeral
abbrev pub stage_of : List ℕ → Option Exponent → Stage
stage_of [] None = integer
stage_of (d ∷ ds) None = fraction
stage_of [] (Some e) = exponent
stage_of (d ∷ ds) (Some e) = exponent

abbrev pub last_stage : Numeral → Stage
last_stage n = stage_of n.fraction n.exponent

from_letter : (r : Rules) (fs : List Frame) (g : Bool) (w f : List ℕ) (e : Exponent) (xs : List ℕ) → IsExponent e →
    run r fs (digits letter (numeral g w f (power e.letter None []))) ((sign_text e.sign ++ e.digits) ++ xs)
    ≡ run r fs (digits exponent (numeral g w f (Some e))) xs
from_letter r fs g w f e xs he = power_digits r fs g w f e.letter e.sign e.digits xs he.digits he.some_digit he.sign

from_fraction : (r : Rules) (fs : List Frame) (g : Bool) (w : List ℕ) (d : ℕ) (ds : List ℕ) (e : Option Exponent) (xs : List ℕ)
    → IfSome e IsExponent →
    run r fs (digits fraction (numeral g w (d ∷ ds) None)) (exponent_text e ++ xs)
    ≡ run r fs (digits (stage_of (d ∷ ds) e) (numeral g w (d ∷ ds) e)) xs
unfolding run step
from_fraction r fs g w d ds None xs he = refl
from_fraction r fs g w d ds (Some e) xs he = rw (letter_no_digit e.letter he.letter, he.letter) (from_letter r fs g w (d ∷ ds) e xs he)

from_integer : (r : Rules) (fs : List Frame) (g : Bool) (w f : List ℕ) (e : Option Exponent) (xs : List ℕ) → AreDigits f
    → IfSome e IsExponent → (r.strict && has_leading_zero w) ≡ false →
    run r fs (digits integer (numeral g w [] None)) (fraction_text f ++ (exponent_text e ++ xs))
    ≡ run r fs (digits (stage_of f e) (numeral g w f e)) xs
unfolding run step
from_integer r fs g w [] None xs hf he h = refl
from_integer r fs g w [] (Some e) xs hf he h =
    rw (letter_no_digit e.letter he.letter, h, letter_no_point e.letter he.letter, he.letter) (from_letter r fs g w [] e xs he)
from_integer r fs g w (c ∷ cs) e xs hf he h =
    rw (h, hf.0) (fraction_digits r fs g w (c ∷ []) cs (exponent_text e ++ xs) hf.1 ∙ from_fraction r fs g w c cs e xs he)

-- the digits before the point
pub run_integer : (r : Rules) (fs : List Frame) (g : Bool) (w xs : List ℕ) → AreDigits w → 0 < length w
    → run r fs awaited (minus_text g ++ (w ++ xs)) ≡ run r fs (digits integer (numeral g w [] None)) xs
unfolding run step
run_integer r fs true [] xs h p = absurd (omega (arith, p))
run_integer r fs false [] xs h p = absurd (omega (arith, p))
run_integer r fs true (c ∷ cs) xs h p = rw h.0 (integer_digits r fs true (c ∷ []) cs xs h.1)
run_integer r fs false (c ∷ cs) xs h p = rw (
  digit_not_white c h.0,
  digit_is_not c 110 h.0 refl,
  digit_is_not c 116 h.0 refl,
  digit_is_not c 102 h.0 refl,
  digit_is_not c 34 h.0 refl,
  digit_is_not c 91 h.0 refl,
  digit_is_not c 123 h.0 refl,
  digit_is_not c 45 h.0 refl,
  h.0,
)
    (integer_digits r fs false (c ∷ []) cs xs h.1)

from_first : (r : Rules) (fs : List Frame) (g : Bool) (w f : List ℕ) (e : Option Exponent) (xs : List ℕ) →
    IsNumeral (numeral g w f e) → (r.strict && has_leading_zero w) ≡ false →
    run r fs awaited (minus_text g ++ (w ++ (fraction_text f ++ (exponent_text e ++ xs))))
    ≡ run r fs (digits (stage_of f e) (numeral g w f e)) xs
from_first r fs g w f e xs hn h = run_integer r fs g w (fraction_text f ++ (exponent_text e ++ xs)) hn.integer hn.some_digit
    ∙ from_integer r fs g w f e xs hn.fraction hn.exponent h

spelling_assoc : (n : Numeral) (xs : List ℕ) → spelling n ++ xs
    ≡ minus_text n.negative ++ (n.integer ++ (fraction_text n.fraction ++ (exponent_text n.exponent ++ xs)))
spelling_assoc n xs = simp append_assoc

-- the machine after the last character of a numeral
pub run_spelling : (r : Rules) (fs : List Frame) (n : Numeral) (xs : List ℕ) → IsNumeral n
    → (r.strict && has_leading_zero n.integer) ≡ false →
    run r fs awaited (spelling n ++ xs) ≡ run r fs (digits (last_stage n) n) xs
run_spelling r fs n xs hn h = rw (spelling_assoc n xs) (from_first r fs n.negative n.integer n.fraction n.exponent xs hn h)

-- ---- the end of a numeral

pub none_follows : (r : Rules) (fs : List Frame) (n : Numeral) (f : List ℕ) (e : Option Exponent) (c : ℕ)
    → (r.strict && has_leading_zero n.integer) ≡ false → continues c ≡ false → step_digits r fs (stage_of f e) n c ≡ None
none_follows r fs n [] None c h hc = rw (continues_digit c hc, h, continues_point c hc, continues_letter c hc)
none_follows r fs n (d ∷ ds) None c h hc = rw (continues_digit c hc, continues_letter c hc)
none_follows r fs n [] (Some e) c h hc = rw (continues_digit c hc)
none_follows r fs n (d ∷ ds) (Some e) c h hc = rw (continues_digit c hc)

pub end_finishes : (r : Rules) (fs : List Frame) (n : Numeral) (f : List ℕ) (e : Option Exponent)
    → (r.strict && has_leading_zero n.integer) ≡ false → end_digits r fs (stage_of f e) n ≡ end_plain (finish r fs n)
end_finishes r fs n [] None h = rw h
end_finishes r fs n (d ∷ ds) None h = refl
end_finishes r fs n [] (Some e) h = refl
end_finishes r fs n (d ∷ ds) (Some e) h = refl

pub fine_zero : (r : Rules) (w : List ℕ) → (r.strict ≡ true → IsTrue (not (has_leading_zero w))) → (r.strict && has_leading_zero w) ≡ false
fine_zero r w h = and_false r.strict (has_leading_zero w) (λ e. not-true (has_leading_zero w) (h e))

pub run_numeral : (r : Rules) (fs : List Frame) (n : Numeral) (xs : List ℕ) → IsNumeral n →
    (r.strict ≡ true → IsTrue (not (has_leading_zero n.integer)) × IsTrue (in_range (value n))) → Delimited xs →
    run r fs awaited (spelling n ++ xs) ≡ settle r (complete r.strict fs (Tree.number (value n)) true) xs
run_numeral r fs n xs hn h d =
    let z = fine_zero r n.integer (λ e. (h e).0) in
    run_spelling r fs n xs hn z
    ∙ numeral_ends r fs (last_stage n) n xs (λ c hc. none_follows r fs n n.fraction n.exponent c z hc)
    (end_finishes r fs n n.fraction n.exponent z) (and_false r.strict (not (in_range (value n))) (λ e. ap not (h e).1)) d
