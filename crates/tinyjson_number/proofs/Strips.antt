-- Zeros stripped from digits.
use Rattle.std.proofs.Common.{◌≡◌, ◌≢◌, ℕ, zero, suc, ◌+◌, ◌-◌, ◌<◌, ◌≤◌, Bool, true, false, cond, eqb, List, [], ◌∷◌, ◌++◌, length, get_or}
use Rattle.std.proofs.Common.{replicate, IsTrue, refl, sym, ap, ◌∙◌, arith, append-nil, length-append}
use Rattle.std.specs.Char.{is_ascii_digit}
use Rattle.std.proofs.lemmas.Bool.{eqb-true, cond_both, false≢true}
use Rattle.std.proofs.lemmas.Bool.Decides.{nat_tests}
use Rattle.std.proofs.lemmas.List.{get_or-append_right, get_or-replicate}
use Rattle.tinyjson_number.specs.Decimal.{strip_leading, strip_trailing, before_stripped, significant, trailing_zeros}
use Rattle.tinyjson_number.specs.Numeral.{AreDigits}

-- ---- joined digits

leading_cases : (b : Bool) (d : ℕ) (w f : List ℕ) → (strip_leading w ≡ [] → strip_leading (w ++ f) ≡ strip_leading f)
    → cond b (strip_leading w) (d ∷ w) ≡ [] → cond b (strip_leading (w ++ f)) (d ∷ (w ++ f)) ≡ strip_leading f
leading_cases true d w f more h = more h
leading_cases false d w f more h = absurd (cc)

strip_leading_append_none : (w f : List ℕ) → strip_leading w ≡ [] → strip_leading (w ++ f) ≡ strip_leading f
strip_leading_append_none [] f h = refl
strip_leading_append_none (d ∷ w) f h = leading_cases (eqb d 48) d w f (strip_leading_append_none w f) h

leading_some_cases : (b : Bool) (d : ℕ) (w f : List ℕ) → (0 < length (strip_leading w) → strip_leading (w ++ f) ≡ strip_leading w ++ f)
    → 0 < length (cond b (strip_leading w) (d ∷ w)) → cond b (strip_leading (w ++ f)) (d ∷ (w ++ f)) ≡ cond b (strip_leading w) (d ∷ w) ++ f
leading_some_cases true d w f more h = more h
leading_some_cases false d w f more h = refl

strip_leading_append_some : (w f : List ℕ) → 0 < length (strip_leading w) → strip_leading (w ++ f) ≡ strip_leading w ++ f
strip_leading_append_some [] f h = absurd (omega arith)
strip_leading_append_some (d ∷ w) f h = leading_some_cases (eqb d 48) d w f (strip_leading_append_some w f) h

pub strip_trailing_append_none : (w f : List ℕ) → strip_trailing f ≡ [] → strip_trailing (w ++ f) ≡ strip_trailing w
strip_trailing_append_none [] f h = h
strip_trailing_append_none (d ∷ w) f h = ap (before_stripped d) (strip_trailing_append_none w f h)

before_some : (d : ℕ) (xs : List ℕ) → 0 < length xs → before_stripped d xs ≡ d ∷ xs
before_some d [] h = absurd (omega arith)
before_some d (x ∷ xs) h = refl

pub strip_trailing_append_some : (w f : List ℕ) → 0 < length (strip_trailing f) → strip_trailing (w ++ f) ≡ w ++ strip_trailing f
strip_trailing_append_some [] f h = refl
strip_trailing_append_some (d ∷ w) f h = ap (before_stripped d) (strip_trailing_append_some w f h) ∙ before_some d (w ++ strip_trailing f)
    (omega (arith, h, length-append w (strip_trailing f)))

first_cases : (b : Bool) (d : ℕ) (xs : List ℕ) → eqb d 48 ≡ b → get_or (strip_leading xs) 0 0 ≢ 48
    → get_or (cond b (strip_leading xs) (d ∷ xs)) 0 0 ≢ 48
first_cases true d xs e more = more
first_cases false d xs e more = λ h. grind (arith, nat_tests)

pub first_leading : (xs : List ℕ) → get_or (strip_leading xs) 0 0 ≢ 48
first_leading [] = λ h. absurd (omega (arith, h))
first_leading (d ∷ xs) = first_cases (eqb d 48) d xs refl (first_leading xs)

-- the first digit stays, where any does
first_one : (b : Bool) (d : ℕ) → d ≢ 48 → get_or (cond b [] (d ∷ [])) 0 0 ≢ 48
first_one true d h = λ e. absurd (omega (arith, e))
first_one false d h = h

first_before : (d : ℕ) (xs : List ℕ) → d ≢ 48 → get_or (before_stripped d xs) 0 0 ≢ 48
first_before d [] h = first_one (eqb d 48) d h
first_before d (x ∷ xs) h = h

pub first_trailing : (xs : List ℕ) → get_or xs 0 0 ≢ 48 → get_or (strip_trailing xs) 0 0 ≢ 48
first_trailing [] h = h
first_trailing (d ∷ xs) h = first_before d (strip_trailing xs) h

last_one : (b : Bool) (d : ℕ) → eqb d 48 ≡ b → get_or (cond b [] (d ∷ [])) (length (cond b [] (d ∷ [])) - 1) 0 ≢ 48
last_one true d e = λ h. absurd (omega (arith, h))
last_one false d e = λ h. grind (arith, nat_tests)

-- the last of a longer list
pub last_cons : (d x : ℕ) (xs : List ℕ) → get_or (d ∷ x ∷ xs) (length (d ∷ x ∷ xs) - 1) 0 ≡ get_or (x ∷ xs) (length (x ∷ xs) - 1) 0
last_cons d x xs = let e : length (d ∷ x ∷ xs) - 1 ≡ suc (length xs) = omega arith in let f : length (x ∷ xs) - 1 ≡ length xs =
    omega arith in ap (λ n. get_or (d ∷ x ∷ xs) n 0) e ∙ ap (λ n. get_or (x ∷ xs) n 0) (sym f)

last_before : (d : ℕ) (xs : List ℕ) → get_or xs (length xs - 1) 0 ≢ 48
    → get_or (before_stripped d xs) (length (before_stripped d xs) - 1) 0 ≢ 48
last_before d [] h = last_one (eqb d 48) d refl
last_before d (x ∷ xs) h = λ e. h (sym (last_cons d x xs) ∙ e)

pub last_trailing : (xs : List ℕ) → get_or (strip_trailing xs) (length (strip_trailing xs) - 1) 0 ≢ 48
last_trailing [] = λ h. absurd (omega (arith, h))
last_trailing (d ∷ xs) = last_before d (strip_trailing xs) (last_trailing xs)

-- digits are those up to the last that is not 0, and zeros
one_cases : (b : Bool) (d : ℕ) (xs : List ℕ) → eqb d 48 ≡ b → xs ≡ replicate (length xs) 48
    → d ∷ xs ≡ cond b [] (d ∷ []) ++ replicate (suc (length xs) - length (cond b [] (d ∷ []))) 48
one_cases true d xs e h =
    let all : suc (length xs) ≡ suc (length xs) - 0 = omega arith in
    (λ i. eqb-true d 48 e i ∷ h i) ∙ ap (λ k. replicate k 48) all
one_cases false d xs e h = grind arith

tail_cases : (d : ℕ) (xs kept : List ℕ) → xs ≡ kept ++ replicate (length xs - length kept) 48
    → d ∷ xs ≡ before_stripped d kept ++ replicate (suc (length xs) - length (before_stripped d kept)) 48
tail_cases d xs [] h = let all : length xs - 0 ≡ length xs = omega arith in
    one_cases (eqb d 48) d xs refl (h ∙ ap (λ k. replicate k 48) all)
tail_cases d xs (e ∷ es) h = let same : length xs - length (e ∷ es) ≡ suc (length xs) - length (d ∷ e ∷ es) = omega arith in
    ap (λ t. d ∷ t) (h ∙ ap (λ k. (e ∷ es) ++ replicate k 48) same)

pub tail_is : (xs : List ℕ) → xs ≡ strip_trailing xs ++ replicate (trailing_zeros xs) 48
tail_is [] = refl
tail_is (d ∷ xs) = tail_cases d xs (strip_trailing xs) (tail_is xs)

-- zeros alone
pub strip_zeros : (k : ℕ) → strip_trailing (replicate k 48) ≡ []
strip_zeros zero = refl
strip_zeros (suc k) = ap (before_stripped 48) (strip_zeros k)

-- digits that do not end with 0
pub strip_trailing_none : (xs : List ℕ) → get_or xs (length xs - 1) 0 ≢ 48 → strip_trailing xs ≡ xs
strip_trailing_none xs h = let kept = strip_trailing xs in
    let t = trailing_zeros xs in
    let tail = tail_is xs in
    let len : length xs ≡ length kept + t = grind (arith, length-append) in
    grind (arith, get_or-append_right, get_or-replicate, append-nil)

-- digits that do not begin with 0
lead_cases : (b : Bool) (d : ℕ) (xs : List ℕ) → b ≡ false → cond b (strip_leading xs) (d ∷ xs) ≡ d ∷ xs
lead_cases true d xs h = absurd (false≢true (sym h))
lead_cases false d xs h = refl

pub strip_leading_none : (xs : List ℕ) → get_or xs 0 0 ≢ 48 → strip_leading xs ≡ xs
strip_leading_none [] h = refl
strip_leading_none (d ∷ xs) h = lead_cases (eqb d 48) d xs (grind (arith, nat_tests))

-- ---- one more digit at the end

last_zero : (b : Bool) (d : ℕ) → b ≡ true → cond b [] (d ∷ []) ≡ []
last_zero true d h = refl
last_zero false d h = absurd (false≢true h)

last_kept : (b : Bool) (d : ℕ) → b ≡ false → cond b [] (d ∷ []) ≡ d ∷ []
last_kept true d h = absurd (false≢true (sym h))
last_kept false d h = refl

pub strip_trailing_push_zero : (xs : List ℕ) (d : ℕ) → d ≡ 48 → strip_trailing (xs ++ d ∷ []) ≡ strip_trailing xs
strip_trailing_push_zero xs d h = strip_trailing_append_none xs (d ∷ []) (last_zero (eqb d 48) d (grind (arith, nat_tests)))

pub strip_trailing_push_other : (xs : List ℕ) (d : ℕ) → d ≢ 48 → strip_trailing (xs ++ d ∷ []) ≡ xs ++ d ∷ []
strip_trailing_push_other xs d h = grind (arith, strip_trailing_append_some)

some_cases : (d : ℕ) (xs : List ℕ) → d ≢ 48 → 0 < length (before_stripped d xs)
some_cases d [] h = omega (arith, ap length (last_kept (eqb d 48) d (grind (arith, nat_tests))))
some_cases d (x ∷ xs) h = omega arith

-- something is left of digits that do not begin with 0
pub strip_trailing_some : (xs : List ℕ) → 0 < length xs → get_or xs 0 0 ≢ 48 → 0 < length (strip_trailing xs)
strip_trailing_some [] some h = absurd (omega (arith, some))
strip_trailing_some (d ∷ xs) some h = some_cases d (strip_trailing xs) h

-- ---- what is stripped of digits are digits

pub digits_leading : (xs : List ℕ) → AreDigits xs → AreDigits (strip_leading xs)
digits_leading [] h = tt
digits_leading (d ∷ xs) h = cond_both (eqb d 48) _ _ AreDigits (λ _. digits_leading xs h.1) (λ _. h)

digits_before : (d : ℕ) (xs : List ℕ) → IsTrue (is_ascii_digit d) → AreDigits xs → AreDigits (before_stripped d xs)
digits_before d [] h k = cond_both (eqb d 48) _ _ AreDigits (λ _. tt) (λ _. (h, tt))
digits_before d (e ∷ es) h k = (h, k)

pub digits_trailing : (xs : List ℕ) → AreDigits xs → AreDigits (strip_trailing xs)
digits_trailing [] h = tt
digits_trailing (d ∷ xs) h = digits_before d (strip_trailing xs) h.0 (digits_trailing xs h.1)

-- ---- how many zeros the digits end with

length_cases : (b : Bool) (d : ℕ) (xs : List ℕ) → length (strip_leading xs) ≤ length xs
    → length (cond b (strip_leading xs) (d ∷ xs)) ≤ suc (length xs)
length_cases true d xs h = omega (arith, h)
length_cases false d xs h = omega arith

length_one : (b : Bool) (d : ℕ) → length (cond b [] (d ∷ [])) ≤ 1
length_one true d = omega arith
length_one false d = omega arith

length_before : (d : ℕ) (xs : List ℕ) → length (before_stripped d xs) ≤ suc (length xs)
length_before d [] = length_one (eqb d 48) d
length_before d (x ∷ xs) = omega arith

length_leading : (xs : List ℕ) → length (strip_leading xs) ≤ length xs
length_leading [] = omega arith
length_leading (d ∷ xs) = length_cases (eqb d 48) d xs (length_leading xs)

pub length_trailing : (xs : List ℕ) → length (strip_trailing xs) ≤ length xs
length_trailing [] = omega arith
length_trailing (d ∷ xs) = omega (arith, length_before d (strip_trailing xs), length_trailing xs)

-- they are those after the first digit that is not 0
zeros_cases : (b : Bool) (d : ℕ) (xs : List ℕ) → (0 < length (significant xs)
    → length xs + length (significant xs) ≡ length (strip_leading xs) + length (strip_trailing xs))
    → 0 < length (strip_trailing (cond b (strip_leading xs) (d ∷ xs)))
    → suc (length xs) + length (strip_trailing (cond b (strip_leading xs) (d ∷ xs))) ≡ length (cond b (strip_leading xs) (d ∷ xs)) + length
    (before_stripped d (strip_trailing xs))
zeros_cases true d xs more some = grind (arith, length_leading)
zeros_cases false d xs more some = refl

zeros_same : (xs : List ℕ) → 0 < length (significant xs) → length xs + length (significant xs) ≡ length (strip_leading xs) + length
    (strip_trailing xs)
zeros_same [] h = refl
zeros_same (d ∷ xs) h = zeros_cases (eqb d 48) d xs (zeros_same xs) h

trailing_zeros_is : (xs : List ℕ) → 0 < length (significant xs) → length (strip_leading xs) - length (significant xs) ≡ trailing_zeros xs
trailing_zeros_is xs h = omega (arith, zeros_same xs h, length_leading xs, length_trailing xs, length_trailing (strip_leading xs))

-- the three ways in which an integer part and a fraction are stripped
module _ (w f : List ℕ) where
  pub strip_fraction_alone : strip_leading w ≡ [] → (strip_trailing (strip_leading f) ≡ significant (w ++ f))
      × (0 < length (significant (w ++ f)) → length (strip_leading f) - length (strip_trailing (strip_leading f)) ≡ trailing_zeros (w ++ f))
  strip_fraction_alone h = grind (arith, strip_leading_append_none, trailing_zeros_is)

  pub strip_integer_alone : 0 < length (strip_leading w) → strip_trailing f ≡ []
      → (strip_trailing (strip_leading w) ++ [] ≡ significant (w ++ f))
      × (0 < length (significant (w ++ f)) → (length (strip_leading w) - length (strip_trailing (strip_leading w))) + length f
      ≡ trailing_zeros (w ++ f))
  strip_integer_alone some none = grind (
    arith,
    strip_leading_append_some,
    strip_trailing_append_none,
    append-nil,
    length-append,
    trailing_zeros_is,
    length_trailing,
  )

  pub strip_both : 0 < length (strip_leading w) → 0 < length (strip_trailing f)
      → (strip_leading w ++ strip_trailing f ≡ significant (w ++ f)) ×
      (0 < length (significant (w ++ f)) → length f - length (strip_trailing f) ≡ trailing_zeros (w ++ f))
  strip_both some kept = grind (arith, strip_leading_append_some, strip_trailing_append_some, length-append)
