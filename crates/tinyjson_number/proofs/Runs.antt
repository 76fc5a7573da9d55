-- Runs of digits, and where a text may be cut.
use Rattle.std.proofs.Common.{◌≡◌, ℕ, zero, suc, ◌<◌, true, List, [], ◌∷◌, ◌++◌, length, take, get_or, IsTrue, refl, arith, Result, Ok, Err}
use Rattle.std.specs.Result.{MatchResult, IsOk}
use Rattle.std.specs.List.{prefix_len, list_all}
use Rattle.std.specs.Str.{IsAscii}
use Rattle.std.specs.Char.{is_ascii_digit}
use Rattle.std.specs.Int.{IsInRange}
use Rattle.std.proofs.lemmas.Str.Ascii.{IsAscii-nil, IsAscii-cons}
use Rattle.std.proofs.lemmas.List.Sums.{prefix_len_passes, list_all-from_AllPass}
use Rattle.std.proofs.lemmas.List.Folds.{length-prefix_len}
use Rattle.std.proofs.lemmas.List.{get_or-take}
use Rattle.std.proofs.lemmas.Bool.Decides.{nat_tests}
use Rattle.std.proofs.lemmas.Bool.{and_parts, and_from}
use Rattle.tinyjson_number.specs.Numeral.{AreDigits}

-- the same by std's word
pub digits_list_all : (xs : List ℕ) → list_all is_ascii_digit xs ≡ true → AreDigits xs
digits_list_all [] h = tt
digits_list_all (d ∷ xs) h = let p = and_parts (is_ascii_digit d) (list_all is_ascii_digit xs) h in (p.0, digits_list_all xs p.1)

pub list_all_digits : (xs : List ℕ) → AreDigits xs → list_all is_ascii_digit xs ≡ true
list_all_digits [] h = refl
list_all_digits (d ∷ xs) h = and_from (is_ascii_digit d) (list_all is_ascii_digit xs) h.0 (list_all_digits xs h.1)

pub digit_at : (xs : List ℕ) (i : ℕ) → AreDigits xs → i < length xs → IsTrue (is_ascii_digit (get_or xs i 0))
digit_at [] i h lt = absurd (omega arith)
digit_at (d ∷ xs) zero h lt = h.0
digit_at (d ∷ xs) (suc i) h lt = digit_at xs i h.1 (omega arith)

pub range_from_digit : (c : ℕ) → IsTrue (is_ascii_digit c) → IsInRange 48 57 c
range_from_digit c h = grind (arith, nat_tests)

ascii_from_digit : (c : ℕ) → IsTrue (is_ascii_digit c) → c < 128
ascii_from_digit c h = grind (arith, nat_tests)

-- the two parts of digits
pub digits_of_front : (xs ys : List ℕ) → AreDigits (xs ++ ys) → AreDigits xs
digits_of_front [] ys h = tt
digits_of_front (d ∷ xs) ys h = (h.0, digits_of_front xs ys h.1)

pub digits_back : (xs ys : List ℕ) → AreDigits (xs ++ ys) → AreDigits ys
digits_back [] ys h = h
digits_back (d ∷ xs) ys h = digits_back xs ys h.1

-- the digits in front are digits
pub front_digits : (xs : List ℕ) → AreDigits (take (prefix_len is_ascii_digit xs) xs)
front_digits xs = grind (arith, digits_list_all, list_all-from_AllPass, length-prefix_len, get_or-take, prefix_len_passes)

-- digits are ASCII
pub digits_ascii : (xs : List ℕ) → AreDigits xs → IsAscii xs
digits_ascii [] h = IsAscii-nil
digits_ascii (d ∷ xs) h = IsAscii-cons d xs (ascii_from_digit d h.0) (digits_ascii xs h.1)

-- a result that is no error
pub ok_of : {A E : Type 0} (r : Result A E) (P : A → Type 0) (Q : E → Type 0) → MatchResult r P Q → ((e : E) → ¬ Q e) → IsOk r
ok_of (Ok x) P Q h none = refl
ok_of (Err e) P Q h none = absurd (none e h)
