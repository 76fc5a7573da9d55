-- Numbers by their digits.
use Rattle.std.proofs.Common.{◌≡◌, ◌∙◌, ℕ, ◌+◌, ◌-◌, ◌*◌, ◌<◌, ◌≤◌, Bool, true, false, cond, not, nat_le, nat_lt, ◌==◌}
use Rattle.std.proofs.Common.{List, [], ◌∷◌, length, refl, sym, ap, arith}
use Rattle.std.specs.Char.{is_ascii_digit}
use Rattle.std.specs.Int.{IsInRange}
use Rattle.std.proofs.lemmas.Bool.{and_parts, and_from, le-leb, lt-leb}
use Rattle.std.proofs.lemmas.Bool.Decides.{nat_tests}
use Rattle.text_ecma_regexp.specs.Letters.{is_not_digit}
use Rattle.text_ecma_regexp.specs.Regex.{number}
use Rattle.text_ecma_regexp.specs.Scan.{are_digits, without_zeros, ordered, at_most}
use Rattle.text_ecma_regexp.proofs.Regexes.{number_grows}
use Rattle.text_uri.specs.Letters.{before}

range : (c : ℕ) → is_ascii_digit c ≡ true → IsInRange 48 57 c
range c e = grind (arith, nat_tests)

same : (c d : ℕ) → (c == d) ≡ true → c ≡ d
same c d e = grind (arith, nat_tests)

other : (c d : ℕ) → (c == d) ≡ false → nat_lt c d ≡ false → d < c
other c d e f = grind (arith, nat_tests)

lower : (c d : ℕ) → nat_lt c d ≡ true → c < d
lower c d e = grind (arith, nat_tests)

-- what is above by its first digits is above
less : (n m : ℕ) (ds es : List ℕ) → n < m → are_digits ds ≡ true → length ds ≤ length es → number n ds < number m es
less n m [] es lt h le = let more : m ≤ number m es = number_grows m es in omega arith
less n m (c ∷ cs) [] lt h le = absurd (omega arith)
less n m (c ∷ cs) (e ∷ es) lt h le =
    let k = and_parts (is_ascii_digit c) (are_digits cs) h in
    let r : IsInRange 48 57 c = range c k.0 in
    less (10 * n + (c - 48)) (10 * m + (e - 48)) cs es (omega (arith, r)) k.1 (omega arith)

step_less : (n c d : ℕ) → is_ascii_digit c ≡ true → c < d → 10 * n + (c - 48) < 10 * n + (d - 48)
step_less n c d e lt = let r : IsInRange 48 57 c = range c e in omega (arith, r)

-- texts of as many digits are in the order of their numbers
ordered_by : (n d e : ℕ) (ds es : List ℕ) → is_ascii_digit d ≡ true → is_ascii_digit e ≡ true → are_digits ds ≡ true → are_digits es ≡ true
    → length ds ≡ length es → ordered ds es ≡ nat_le (number (10 * n + (d - 48)) ds) (number (10 * n + (d - 48)) es)
    → (b : Bool) → (d == e) ≡ b → (s : Bool) → nat_lt d e ≡ s
    → cond b (ordered ds es) s ≡ nat_le (number (10 * n + (d - 48)) ds) (number (10 * n + (e - 48)) es)
ordered_by n d e ds es p q h k l more true t s u =
    more ∙ ap (λ x. nat_le (number (10 * n + (d - 48)) ds) (number (10 * n + (x - 48)) es)) (same d e t)
ordered_by n d e ds es p q h k l more false t true u =
    let lt : number (10 * n + (d - 48)) ds < number (10 * n + (e - 48)) es =
    less (10 * n + (d - 48)) (10 * n + (e - 48)) ds es (step_less n d e p (lower d e u)) h (omega arith) in
    sym (le-leb (number (10 * n + (d - 48)) ds) (number (10 * n + (e - 48)) es) (omega arith))
ordered_by n d e ds es p q h k l more false t false u = sym (lt-leb (number (10 * n + (d - 48)) ds) (number (10 * n + (e - 48)) es)
    (less (10 * n + (e - 48)) (10 * n + (d - 48)) es ds (step_less n e d q (other d e t u)) k (omega arith)))

ordered_is : (n : ℕ) (ds es : List ℕ) → are_digits ds ≡ true → are_digits es ≡ true → length ds ≡ length es
    → ordered ds es ≡ nat_le (number n ds) (number n es)
ordered_is n [] [] h k l = sym (le-leb n n (omega arith))
ordered_is n [] (e ∷ es) h k l = absurd (omega arith)
ordered_is n (d ∷ ds) [] h k l = absurd (omega arith)
ordered_is n (d ∷ ds) (e ∷ es) h k l =
    let p = and_parts (is_ascii_digit d) (are_digits ds) h in
    let q = and_parts (is_ascii_digit e) (are_digits es) k in
    let long : length ds ≡ length es = omega arith in
    ordered_by n d e ds es p.0 q.0 p.1 q.1 long (ordered_is (10 * n + (d - 48)) ds es p.1 q.1 long) (d == e) refl (nat_lt d e) refl

zeros_by : (c : ℕ) (cs : List ℕ) → number 0 (without_zeros cs) ≡ number 0 cs → (b : Bool) → (c == 48) ≡ b
    → number 0 (cond b (without_zeros cs) (c ∷ cs)) ≡ number 0 (c ∷ cs)
zeros_by c cs more true t = more ∙ sym (ap (λ x. number (10 * 0 + (x - 48)) cs) (same c 48 t))
zeros_by c cs more false t = refl

zeros_number : (ds : List ℕ) → number 0 (without_zeros ds) ≡ number 0 ds
zeros_number [] = refl
zeros_number (c ∷ cs) = zeros_by c cs (zeros_number cs) (c == 48) refl

digits_by : (c : ℕ) (cs : List ℕ) → are_digits (without_zeros cs) ≡ true → are_digits (c ∷ cs) ≡ true → (b : Bool)
    → are_digits (cond b (without_zeros cs) (c ∷ cs)) ≡ true
digits_by c cs more h true = more
digits_by c cs more h false = h

zeros_digits : (ds : List ℕ) → are_digits ds ≡ true → are_digits (without_zeros ds) ≡ true
zeros_digits [] h = refl
zeros_digits (c ∷ cs) h = digits_by c cs (zeros_digits cs (and_parts (is_ascii_digit c) (are_digits cs) h).1) h (c == 48)

-- a number of more digits, the first of them no zero, is above
positive : (e : ℕ) → is_ascii_digit e ≡ true → (e == 48) ≡ false → 0 < 10 * 0 + (e - 48)
positive e q t = let r : IsInRange 48 57 e = range e q in grind (arith, nat_tests, r)

above_by : (ds : List ℕ) (e : ℕ) (es : List ℕ) → are_digits ds ≡ true → is_ascii_digit e ≡ true
    → (length ds < length (without_zeros es) → number 0 ds < number 0 (without_zeros es))
    → (b : Bool) → (e == 48) ≡ b → length ds < length (cond b (without_zeros es) (e ∷ es))
    → number 0 ds < number 0 (cond b (without_zeros es) (e ∷ es))
above_by ds e es h q more true t long = more long
above_by ds e es h q more false t long = less 0 (10 * 0 + (e - 48)) ds es (positive e q t) h (omega arith)

above : (ds es : List ℕ) → are_digits ds ≡ true → are_digits es ≡ true → length ds < length (without_zeros es)
    → number 0 ds < number 0 (without_zeros es)
above ds [] h k lt = absurd (omega arith)
above ds (e ∷ es) h k lt =
    let q = and_parts (is_ascii_digit e) (are_digits es) k in
    above_by ds e es h q.0 (λ long. above ds es h q.1 long) (e == 48) refl lt

most_by : (ds es : List ℕ) → are_digits ds ≡ true → are_digits es ≡ true
    → (b : Bool) → (length (without_zeros ds) == length (without_zeros es)) ≡ b
    → (s : Bool) → nat_lt (length (without_zeros ds)) (length (without_zeros es)) ≡ s
    → cond b (ordered (without_zeros ds) (without_zeros es)) s ≡ nat_le (number 0 (without_zeros ds)) (number 0 (without_zeros es))
most_by ds es h k true t s u = ordered_is 0 (without_zeros ds) (without_zeros es) (zeros_digits ds h) (zeros_digits es k)
    (same (length (without_zeros ds)) (length (without_zeros es)) t)
most_by ds es h k false t true u =
    let lt : number 0 (without_zeros ds) < number 0 (without_zeros es) = above (without_zeros ds) es (zeros_digits ds h) k
    (lower (length (without_zeros ds)) (length (without_zeros es)) u) in
    sym (le-leb (number 0 (without_zeros ds)) (number 0 (without_zeros es)) (omega arith))
most_by ds es h k false t false u = sym (lt-leb (number 0 (without_zeros ds)) (number 0 (without_zeros es))
    (above (without_zeros es) ds (zeros_digits es k) h (other (length (without_zeros ds)) (length (without_zeros es)) t u)))

pub at_most_is : (ds es : List ℕ) → are_digits ds ≡ true → are_digits es ≡ true → at_most ds es ≡ nat_le (number 0 ds) (number 0 es)
at_most_is ds es h k =
    most_by ds es h k (length (without_zeros ds) == length (without_zeros es)) refl
    (nat_lt (length (without_zeros ds)) (length (without_zeros es))) refl
    ∙ (ap (λ n. nat_le n (number 0 (without_zeros es))) (zeros_number ds) ∙ ap (λ n. nat_le (number 0 ds) n) (zeros_number es))

-- what is before the first that is no digit
before_by : (c : ℕ) (cs : List ℕ) → are_digits (before is_not_digit cs) ≡ true → (b : Bool) → is_ascii_digit c ≡ b
    → are_digits (cond (not b) [] (c ∷ before is_not_digit cs)) ≡ true
before_by c cs more true e = and_from (is_ascii_digit c) (are_digits (before is_not_digit cs)) e more
before_by c cs more false e = refl

before_digits : (text : List ℕ) → are_digits (before is_not_digit text) ≡ true
before_digits [] = refl
before_digits (c ∷ cs) = before_by c cs (before_digits cs) (is_ascii_digit c) refl

pub digits_cut : (digits text : List ℕ) → digits ≡ before is_not_digit text → are_digits digits ≡ true
digits_cut digits text e = ap are_digits e ∙ before_digits text
