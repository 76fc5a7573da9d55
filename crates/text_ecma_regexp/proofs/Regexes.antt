-- Patterns, a step at a time.
use Rattle.std.proofs.Common.{◌≡◌, ◌≢◌, ◌-◌, ◌+◌, ◌*◌, ◌≤◌, ℕ, suc, Bool, [], ◌∷◌, List, ap, arith}
use Rattle.text_ecma_regexp.specs.Regex.{are_parts, name_value, is_disjunction, members, number}

pub members_opened : (left : ℕ) (text : List ℕ) → left ≢ 0 → members left text ≡ members (suc (left - 1)) text
members_opened left text some = let e : left ≡ suc (left - 1) = omega arith in ap (λ n. members n text) e

pub parts_opened : (left : ℕ) (text : List ℕ) → left ≢ 0 → are_parts left text ≡ are_parts (suc (left - 1)) text
parts_opened left text some = let e : left ≡ suc (left - 1) = omega arith in ap (λ n. are_parts n text) e

pub value_opened : (left : ℕ) (text : List ℕ) → left ≢ 0 → name_value left text ≡ name_value (suc (left - 1)) text
value_opened left text some = let e : left ≡ suc (left - 1) = omega arith in ap (λ n. name_value n text) e

pub disjunction_opened : (count : ℕ) (known : List (List ℕ)) (left : ℕ) (groups : List Bool) (text : List ℕ) → left ≢ 0
    → is_disjunction count known left groups text ≡ is_disjunction count known (suc (left - 1)) groups text
disjunction_opened count known left groups text some = let e : left ≡ suc (left - 1) = omega arith in
    ap (λ n. is_disjunction count known n groups text) e

-- a number is at least what its first digits give
pub number_grows : (n : ℕ) (digits : List ℕ) → n ≤ number n digits
number_grows n [] = omega arith
number_grows n (c ∷ cs) = let more : 10 * n + (c - 48) ≤ number (10 * n + (c - 48)) cs = number_grows (10 * n + (c - 48)) cs in omega arith
