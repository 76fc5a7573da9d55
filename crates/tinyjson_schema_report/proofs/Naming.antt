-- The tokens of one index are the same.
use Rattle.std.proofs.Common.{◌≡◌, ◌==◌, ◌&&◌, ◌||◌, ◌∷◌, [], ◌++◌, ℕ, zero, suc, ◌<◌, ◌≤◌, ◌+◌, ◌-◌, ◌*◌, Bool, true, false, not, cond}
use Rattle.std.proofs.Common.{List, length, take, drop, Option, Some, None, refl, sym, ap, ◌∙◌, arith, true≢false, ◌⊎◌, inl, inr}
use Rattle.std.proofs.Common.{take-append-drop, length-drop, nat_lt, ltb-true, ltb-false, subst}
use Rattle.std.proofs.lemmas.Bool.{and_parts, eqb-false}
use Rattle.std.proofs.lemmas.Str.Parse.{IsNumeralModel, FoldsDigits, IsDigitsTest, numerals_by_fold, tells_all_ascii_digits}
use Rattle.std.specs.Int.{IsInRange}
use Rattle.std.specs.Str.{all_ascii_digits}
use Rattle.std.specs.Str.Parse.{digits_value}
use Rattle.tinyjson_pointer.specs.Index.{is_nil, is_index, index_of}

-- what digits say after a number that stands before them
abbrev worth : ℕ → List ℕ → ℕ
worth n [] = n
worth n (c ∷ cs) = worth (n * 10 + (c - 48)) cs

folds : FoldsDigits worth
folds = record { empty = λ n. refl; more = λ n c cs h. refl }

own : IsNumeralModel (λ ds. all_ascii_digits ds ≡ true) (worth 0)
own = numerals_by_fold _ tells_all_ascii_digits worth folds

first_digit : (c : ℕ) (cs : List ℕ) → all_ascii_digits (c ∷ cs) ≡ true → IsInRange 48 57 c × (all_ascii_digits cs ≡ true)
first_digit c cs h = tells_all_ascii_digits.parts c cs h

-- as many digits after m and after n are worth the same only if they and these are the same
same_long : (xs ys : List ℕ) (m n : ℕ) → length xs ≡ length ys → all_ascii_digits xs ≡ true → all_ascii_digits ys ≡ true
    → worth m xs ≡ worth n ys → (m ≡ n) × (xs ≡ ys)
same_long [] [] m n l g h e = (e, refl)
same_long [] (y ∷ ys) m n l g h e = absurd (omega (arith, l))
same_long (x ∷ xs) [] m n l g h e = absurd (omega (arith, l))
same_long (x ∷ xs) (y ∷ ys) m n l g h e =
    let a = first_digit x xs g in
    let b = first_digit y ys h in
    let more = same_long xs ys (m * 10 + (x - 48)) (n * 10 + (y - 48)) (omega (arith, l)) a.1 b.1 e in
    let first : x ≡ y = omega (arith, more.0, a.0, b.0) in
    (omega (arith, more.0, first), λ i. first i ∷ more.1 i)

grows : (n : ℕ) (cs : List ℕ) → n ≤ worth n cs
grows n [] = omega arith
grows n (c ∷ cs) = omega (arith, grows (n * 10 + (c - 48)) cs)

split_worth : (n : ℕ) (xs ys : List ℕ) → worth n (xs ++ ys) ≡ worth (worth n xs) ys
split_worth n [] ys = refl
split_worth n (x ∷ xs) ys = split_worth (n * 10 + (x - 48)) xs ys

digits_split : (xs ys : List ℕ) → all_ascii_digits (xs ++ ys) ≡ true → all_ascii_digits ys ≡ true
digits_split [] ys h = h
digits_split (x ∷ xs) ys h = digits_split xs ys (first_digit x (xs ++ ys) h).1

digits_in : (cs : List ℕ) → is_index cs ≡ true → all_ascii_digits cs ≡ true
digits_in [] h = absurd (true≢false (sym h))
digits_in (c ∷ cs) h = (and_parts (all_ascii_digits (c ∷ cs)) (is_nil cs || not (c == 48)) h).0

-- digits with others before them are worth more than they are alone
longer : (x : ℕ) (front back ys : List ℕ) → 48 < x → length back ≡ length ys → all_ascii_digits back ≡ true
    → all_ascii_digits ys ≡ true → worth 0 (x ∷ front ++ back) ≡ worth 0 ys → ⊥
longer x front back ys h l g k e =
    let same = same_long back ys (worth (0 * 10 + (x - 48)) front) 0 l g k (sym (split_worth (0 * 10 + (x - 48)) front back) ∙ e) in
    let more = grows (0 * 10 + (x - 48)) front in
    omega (arith, h, same.0, more)

more_digits : (c : ℕ) (cs ys : List ℕ) → is_index (c ∷ cs) ≡ true → is_index ys ≡ true → length ys < length (c ∷ cs)
    → worth 0 (c ∷ cs) ≡ worth 0 ys → ⊥
more_digits c cs [] g h l e = absurd (true≢false (sym h))
more_digits c [] (y ∷ ys) g h l e = absurd (omega (arith, l))
more_digits c (d ∷ cs) (y ∷ ys) g h l e =
    let all = digits_in (c ∷ d ∷ cs) g in
    let split = sym (take-append-drop (length (d ∷ cs) - length (y ∷ ys)) (d ∷ cs)) in
    let front = take (length (d ∷ cs) - length (y ∷ ys)) (d ∷ cs) in
    let back = drop (length (d ∷ cs) - length (y ∷ ys)) (d ∷ cs) in
    let rest = (first_digit c (d ∷ cs) all).1 in
    longer c front back (y ∷ ys) (not_zero c (first_digit c (d ∷ cs) all).0 (and_parts (all_ascii_digits (c ∷ d ∷ cs)) (not (c == 48)) g).1)
    (length-drop (length (d ∷ cs) - length (y ∷ ys)) (d ∷ cs) ∙ omega (arith, l))
    (digits_split front back (subst (λ z. all_ascii_digits z ≡ true) split rest)) (digits_in (y ∷ ys) h)
    (ap (λ z. worth 0 (c ∷ z)) (sym split) ∙ e)
  where
    least : (c : ℕ) → IsInRange 48 57 c → (c ≡ 48 → ⊥) → 48 < c
    least c r h = omega (arith, r, h)

    not_zero : (c : ℕ) → IsInRange 48 57 c → not (c == 48) ≡ true → 48 < c
    not_zero c r h = by (c == 48) refl h
      where
        by : (b : Bool) → (c == 48) ≡ b → not b ≡ true → 48 < c
        by true e h = absurd (true≢false (sym h))
        by false e h = least c r (eqb-false c 48 e)

value_is : (cs : List ℕ) → is_index cs ≡ true → worth 0 cs ≡ digits_value 10 cs
value_is cs h = own.same cs (own.to cs (digits_in cs h))

same_value : (xs ys : List ℕ) → is_index xs ≡ true → is_index ys ≡ true → worth 0 xs ≡ worth 0 ys → xs ≡ ys
same_value [] ys g h e = absurd (true≢false (sym g))
same_value (x ∷ xs) [] g h e = absurd (true≢false (sym h))
same_value (x ∷ xs) (y ∷ ys) g h e = by (nat_lt (length (x ∷ xs)) (length (y ∷ ys))) (nat_lt (length (y ∷ ys)) (length (x ∷ xs))) refl refl
  where
    by : (a b : Bool) → nat_lt (length (x ∷ xs)) (length (y ∷ ys)) ≡ a → nat_lt (length (y ∷ ys)) (length (x ∷ xs)) ≡ b → x ∷ xs ≡ y ∷ ys
    by true b p q = absurd (more_digits y ys (x ∷ xs) h g (ltb-true (length (x ∷ xs)) (length (y ∷ ys)) p) (sym e))
    by false true p q = absurd (more_digits x xs (y ∷ ys) g h (ltb-true (length (y ∷ ys)) (length (x ∷ xs)) q) e)
    by false false p q =
        let least = ltb-false (length (x ∷ xs)) (length (y ∷ ys)) p in
        let most = ltb-false (length (y ∷ ys)) (length (x ∷ xs)) q in
        (same_long (x ∷ xs) (y ∷ ys) 0 0 (omega (arith, least, most)) (digits_in (x ∷ xs) g) (digits_in (y ∷ ys) h) e).1

-- an index has one token
pub one_token : (xs ys : List ℕ) (i : ℕ) → index_of xs ≡ Some i → index_of ys ≡ Some i → xs ≡ ys
one_token xs ys i g h = by (is_index xs) (is_index ys) refl refl g h
  where
    by : (a b : Bool) → is_index xs ≡ a → is_index ys ≡ b → cond a (Some (digits_value 10 xs)) None ≡ Some i
        → cond b (Some (digits_value 10 ys)) None ≡ Some i → xs ≡ ys
    by true true p q e f =
        let x : digits_value 10 xs ≡ i = cc in
        let y : digits_value 10 ys ≡ i = cc in
        same_value xs ys p q (value_is xs p ∙ (x ∙ sym y ∙ sym (value_is ys q)))
    by true false p q e f = cc
    by false b p q e f = cc
