-- The order of decimals by the place of their first digit, and by their digits.
use Rattle.std.proofs.Common.{◌≡◌, ◌≢◌, ℕ, zero, suc, ◌+◌, ◌*◌, ◌^◌, ◌<◌, ◌≤◌, Bool, true, false, not, ◌&&◌, ◌==◌, nat_le, cond, List, []}
use Rattle.std.proofs.Common.{◌∷◌, length, get_or, ℤ, pos, negsuc, neg_ℤ, int_le, int_lt, IsTrue, refl, sym, ap, ◌∙◌, subst, arith}
use Rattle.std.proofs.Common.{Ordering, Less, Equal, Greater, ⊎_elim, ◌+ℤ◌, true≢false}
use Rattle.std.specs.Cmp.{ranks}
use Rattle.std.specs.Bool.{⊤}
use Rattle.std.specs.Str.{all_ascii_digits}
use Rattle.std.specs.Char.{is_ascii_digit, digit_value}
use Rattle.std.specs.Cmp.Lexicographic.{slice_cmp}
use Rattle.std.specs.Int.{int_gap, IsInRange}
use Rattle.std.specs.Ordering.{int_eq, nat_cmp, is_le, ordering_then, MatchOrdering}
use Rattle.std.specs.Str.Parse.{digits_value, digits_value_after}
use Rattle.std.proofs.Math.Nat.{pow-suc, one-le-pow, pow-le-pow_right, mul-le-mul_right}
use Rattle.std.proofs.lemmas.Bool.{le-leb, lt-leb, not-true, and_parts, cases_lt}
use Rattle.std.proofs.lemmas.Bool.Decides.{nat_tests, Decides-int_eq}
use Rattle.std.proofs.lemmas.Int.{ints}
use Rattle.std.proofs.lemmas.Str.{digit_value_digit}
use lib.Signed.{lt_z}
use Rattle.tinyjson_number.specs.Canonical.{IsDecimal}
use Rattle.tinyjson_number.specs.Decimal.{Decimal, zero_decimal}
use Rattle.tinyjson_number.specs.Order.{units, first_place, is_at_most, is_magnitude_at_most}

abbrev pub AreDigits : List ℕ → Type 0
AreDigits [] = ⊤
AreDigits (d ∷ ds) = IsTrue (is_ascii_digit d) × AreDigits ds

pub digits_from : (ds : List ℕ) → IsTrue (all_ascii_digits ds) → AreDigits ds
digits_from [] h = tt
digits_from (c ∷ cs) h = let k = and_parts (is_ascii_digit c) (all_ascii_digits cs) h in (k.0, digits_from cs k.1)

-- the last of c and what follows it is not 0
abbrev pub ends_nonzero : ℕ → List ℕ → Bool
ends_nonzero c [] = not (c == 48)
ends_nonzero c (d ∷ ds) = ends_nonzero d ds

abbrev ends_without_zero : List ℕ → Bool
ends_without_zero [] = true
ends_without_zero (c ∷ cs) = ends_nonzero c cs

range_from_digit : (c : ℕ) → IsTrue (is_ascii_digit c) → IsInRange 48 57 c
range_from_digit c h = grind (arith, nat_tests)

-- the number that the digits write at the upper end of k places
abbrev padded : ℕ → List ℕ → ℕ
padded k [] = 0
padded zero (c ∷ cs) = 0
padded (suc k) (c ∷ cs) = digit_value c * 10 ^ k + padded k cs

ten_more : (n c x y p : ℕ) → y ≡ x * 10 → (n * 10 + c) * x + p ≡ n * y + (c * x + p)
ten_more n c x y p e = rw e (omega arith)

none_more : (n x y : ℕ) → x ≡ y → n * x ≡ n * y + 0
none_more n x y e = rw e (omega arith)

padded_after : (n : ℕ) (cs : List ℕ) (i : ℕ) → digits_value_after 10 n cs * 10 ^ i ≡ n * 10 ^ (length cs + i) + padded (length cs + i) cs
padded_after n [] i = none_more n (10 ^ i) (10 ^ (length {A = ℕ} [] + i)) (ap (λ j. 10 ^ j) (omega arith))
padded_after n (c ∷ cs) i =
    let next : suc (length cs + i) ≡ length (c ∷ cs) + i = omega arith in
    subst (λ j. digits_value_after 10 n (c ∷ cs) * 10 ^ i ≡ n * 10 ^ j + padded j (c ∷ cs)) next
    (padded_after (n * 10 + digit_value c) cs i
    ∙ ten_more n (digit_value c) (10 ^ (length cs + i)) (10 ^ suc (length cs + i)) (padded (length cs + i) cs) (pow-suc 10 (length cs + i)))

padded_is : (cs : List ℕ) (i : ℕ) → digits_value 10 cs * 10 ^ i ≡ padded (length cs + i) cs
padded_is cs i = padded_after 0 cs i ∙ omega arith

pub digit_is : (c : ℕ) → IsTrue (is_ascii_digit c) → (digit_value c + 48 ≡ c) × (digit_value c ≤ 9)
digit_is c h = let r = range_from_digit c h in (omega (arith, digit_value_digit c r, r), omega (arith, digit_value_digit c r, r))

-- ---- bounds

some_power : (k : ℕ) → 1 ≤ 10 ^ k
some_power k = one-le-pow k 10 (omega arith)

-- the digit in front decides
front_below : (c d x p : ℕ) → c < d → p < x → c * x + p < d * x
front_below c d x p h lt = omega (arith, mul-le-mul_right {m = suc c} {n = d} x (omega arith))

padded_below : (k : ℕ) (cs : List ℕ) → AreDigits cs → padded k cs < 10 ^ k
padded_below k [] h = omega (arith, some_power k)
padded_below zero (c ∷ cs) h = omega (arith, some_power 0)
padded_below (suc k) (c ∷ cs) h =
    let d = digit_is c h.0 in
    omega (arith, front_below (digit_value c) 10 (10 ^ k) (padded k cs) (omega (arith, d.1)) (padded_below k cs h.1), pow-suc 10 k)

first_some : (d x p : ℕ) → 1 ≤ d → x ≤ d * x + p
first_some d x p h = omega (arith, mul-le-mul_right {m = 1} {n = d} x h)

pub value_below : (cs : List ℕ) → AreDigits cs → digits_value 10 cs < 10 ^ length cs
value_below cs h =
    let same : length cs + 0 ≡ length cs = omega arith in
    subst (λ k. digits_value 10 cs < 10 ^ k) same (omega (arith, padded_is cs 0, padded_below (length cs + 0) cs h))

padded_above : (k c : ℕ) (cs : List ℕ) → IsTrue (is_ascii_digit c) → c ≢ 48 → 10 ^ k ≤ padded (suc k) (c ∷ cs)
padded_above k c cs h some = first_some (digit_value c) (10 ^ k) (padded k cs) (let d = digit_is c h in omega (arith, d.0, some))

pub end_some : (c : ℕ) → IsTrue (not (c == 48)) → c ≢ 48
end_some c h = λ e. grind (arith, nat_tests)

padded_some : (k c : ℕ) (cs : List ℕ) → AreDigits (c ∷ cs) → IsTrue (ends_nonzero c cs) → length (c ∷ cs) ≤ k → 0 < padded k (c ∷ cs)
padded_some zero c cs h ends room = absurd (omega arith)
padded_some (suc k) c [] h ends room = omega (arith, padded_above k c [] h.0 (end_some c ends), some_power k)
padded_some (suc k) c (d ∷ ds) h ends room = omega (arith, padded_some k d ds h.1 ends (omega (arith, room)))

-- ---- the same place: by the digits

record IsPart (k : ℕ) (cs : List ℕ) : Type 0 where
  are : AreDigits cs
  ends : IsTrue (ends_without_zero cs)
  room : length cs ≤ k

part_tail : (k c : ℕ) (cs : List ℕ) → IsPart (suc k) (c ∷ cs) → IsPart k cs
part_tail k c [] h = record { are = tt; ends = refl; room = omega arith }
part_tail k c (d ∷ ds) h = record { are = h.are.1; ends = h.ends; room = omega (arith, h.room) }

same_test : (a b x : ℕ) → nat_le a b ≡ nat_le (x + a) (x + b)
same_test a b x = grind (arith, nat_tests)

by_digits : (k : ℕ) (xs ys : List ℕ) → IsPart k xs → IsPart k ys → is_le (slice_cmp nat_cmp xs ys) ≡ nat_le (padded k xs) (padded k ys)
by_digits k [] [] h g = sym (le-leb 0 0 (omega arith))
by_digits k [] (b ∷ ys) h g = sym (le-leb 0 (padded k (b ∷ ys)) (omega arith))
by_digits k (a ∷ xs) [] h g = sym (lt-leb (padded k (a ∷ xs)) 0 (padded_some k a xs h.are h.ends h.room))
by_digits zero (a ∷ xs) (b ∷ ys) h g = let room = h.room in absurd (omega (arith, room))
by_digits (suc k) (a ∷ xs) (b ∷ ys) h g = by (nat_cmp a b) (ranks a b) (by_digits k xs ys (part_tail k a xs h) (part_tail k b ys g))
  where
    p : padded k xs < 10 ^ k
    p = padded_below k xs h.are.1

    q : padded k ys < 10 ^ k
    q = padded_below k ys g.are.1

    by : (o : Ordering) → MatchOrdering o (a < b) (a ≡ b) (b < a) → is_le (slice_cmp nat_cmp xs ys) ≡ nat_le (padded k xs) (padded k ys)
        → is_le (ordering_then o (slice_cmp nat_cmp xs ys)) ≡ nat_le (padded (suc k) (a ∷ xs)) (padded (suc k) (b ∷ ys))
    by Less lt later = sym (le-leb _ _ (omega (
      arith,
      front_below (digit_value a) (digit_value b) (10 ^ k) (padded k xs)
          (omega (arith, (digit_is a h.are.0).0, (digit_is b g.are.0).0)) p,
    )))
    by Equal e later =
        later
        ∙ (same_test (padded k xs) (padded k ys) (digit_value a * 10 ^ k)
        ∙ ap (λ c. nat_le (digit_value a * 10 ^ k + padded k xs) (digit_value c * 10 ^ k + padded k ys)) e)
    by Greater gt later = sym (lt-leb _ _ (omega (
      arith,
      front_below (digit_value b) (digit_value a) (10 ^ k) (padded k ys)
          (omega (arith, (digit_is a h.are.0).0, (digit_is b g.are.0).0)) q,
    )))

-- ---- other places: by the places

lower_place : (k l b : ℕ) (xs ys : List ℕ) → AreDigits xs → IsTrue (is_ascii_digit b) → b ≢ 48 → k < l → padded k xs < padded l (b ∷ ys)
lower_place k zero b xs ys h d some lt = absurd (omega arith)
lower_place k (suc l) b xs ys h d some lt =
    let more : 10 ^ k ≤ 10 ^ l = pow-le-pow_right {n = 10} (omega arith) {i = k} {j = l} (omega arith) in
    omega (arith, more, padded_below k xs h, padded_above l b ys d some)

-- ---- decimals

-- digits that neither begin nor end with 0
pub record HasDigits (ds : List ℕ) : Type 0 where
  pub are : AreDigits ds
  pub first : get_or ds 0 0 ≢ 48
  pub ends : IsTrue (ends_without_zero ds)

same_end : (f : ℕ → List ℕ → Bool) → ((c : ℕ) → f c [] ≡ not (c == 48)) → ((c d : ℕ) (ds : List ℕ) → f c (d ∷ ds) ≡ f d ds)
    → (c : ℕ) (cs : List ℕ) → f c cs ≡ ends_nonzero c cs
same_end f one more c [] = one c
same_end f one more c (d ∷ ds) = more c d ds ∙ same_end f one more d ds

-- for any test of the end that answers the same: `tinyjson` passes on `IsDecimal`, and not the name of its test
in_parts : (w : Bool) (f : ℕ → List ℕ → Bool) → ((c : ℕ) → f c [] ≡ not (c == 48)) → ((c d : ℕ) (ds : List ℕ) → f c (d ∷ ds) ≡ f d ds)
    → (c : ℕ) (cs : List ℕ) → IsTrue (w && (all_ascii_digits (c ∷ cs) && (not (c == 48) && f c cs))) → HasDigits (c ∷ cs)
in_parts w f one more c cs h =
    let k = and_parts w (all_ascii_digits (c ∷ cs) && (not (c == 48) && f c cs)) h in
    let d = and_parts (all_ascii_digits (c ∷ cs)) (not (c == 48) && f c cs) k.1 in
    let e = and_parts (not (c == 48)) (f c cs) d.1 in
    record { are = digits_from (c ∷ cs) d.0; first = end_some c e.0; ends = sym (same_end f one more c cs) ∙ e.1 }

in_form : (g : Bool) (p : ℤ) (c : ℕ) (cs : List ℕ) → IsDecimal (record { negative = g; digits = c ∷ cs; power = p }) → HasDigits (c ∷ cs)
in_form g p = in_parts _ _ (λ _. refl) (λ _ _ _. refl)

digits_in : (g : Bool) (ds : List ℕ) (p : ℤ) → IsDecimal (record { negative = g; digits = ds; power = p }) → HasDigits ds
digits_in g [] p h = record { are = tt; first = λ e. absurd (omega (arith, e)); ends = refl }
digits_in g (c ∷ cs) p h = in_form g p c cs h

pub has_digits : (d : Decimal) → IsDecimal d → HasDigits d.digits
has_digits d h = digits_in d.negative d.digits d.power h

digits_test : (g : Bool) (ds : List ℕ) (p : ℤ) → IsDecimal (record { negative = g; digits = ds; power = p }) → IsTrue (all_ascii_digits ds)
digits_test g [] p h = refl
digits_test g (c ∷ cs) p h = (and_parts (all_ascii_digits (c ∷ cs)) _ (and_parts _ _ h).1).0

pub are_digits : (d : Decimal) → IsDecimal d → IsTrue (all_ascii_digits d.digits)
are_digits d h = digits_test d.negative d.digits d.power h

none_is : (g : Bool) (ds : List ℕ) (p : ℤ) → IsDecimal (record { negative = g; digits = ds; power = p }) → length ds ≡ 0
    → record { negative = g; digits = ds; power = p } ≡ zero_decimal
none_is g [] p h e =
    let k = and_parts (not g) (int_eq p (pos 0)) h in
    λ i. record { negative = not-true g k.0 i; digits = []; power = (Decides-int_eq p (pos 0)).0 k.1 i }
none_is g (c ∷ cs) p h e = absurd (omega (arith, e))

pub some_digits : (d : Decimal) → IsDecimal d → ¬ (d ≡ zero_decimal) → 0 < length d.digits
some_digits d h some = ⊎_elim (λ lt. lt) (λ none. absurd (some (none_is d.negative d.digits d.power h (omega (arith, none)))))
    (cases_lt 0 (length d.digits))

lower_digits : (k l : ℕ) (xs ys : List ℕ) → AreDigits xs → HasDigits ys → 0 < length ys → k < l → padded k xs < padded l ys
lower_digits k l xs [] h g some lt = absurd (omega arith)
lower_digits k l xs (b ∷ ys) h g some lt = lower_place k l b xs ys h g.are.0 g.first lt

digits_some : (k : ℕ) (cs : List ℕ) → HasDigits cs → 0 < length cs → length cs ≤ k → 0 < padded k cs
digits_some k [] h some room = absurd (omega arith)
digits_some k (c ∷ cs) h some room = padded_some k c cs h.are h.ends room

-- how many places there are down to the unit
abbrev places : Decimal → Decimal → ℕ
places d e = length d.digits + int_gap e.power d.power

units_is : (d e : Decimal) → units d e ≡ padded (places d e) d.digits
unfolding units
units_is d e = padded_is d.digits (int_gap e.power d.power)

pub zero_units : (d e : Decimal) → d ≡ zero_decimal → units d e ≡ 0
zero_units d e h = units_is d e ∙ ap (λ (z : Decimal). padded (places z e) z.digits) h

pub some_units : (d e : Decimal) → IsDecimal d → ¬ (d ≡ zero_decimal) → 0 < units d e
some_units d e h some = omega (arith, units_is d e, digits_some (places d e) d.digits (has_digits d h) (some_digits d h some) (omega arith))

gap : (p q : ℤ) → pos (int_gap q p) +ℤ q ≡ pos (int_gap p q) +ℤ p
gap (pos a) (pos b) = omega (arith, ints)
gap (pos a) (negsuc b) = omega (arith, ints)
gap (negsuc a) (pos b) = omega (arith, ints)
gap (negsuc a) (negsuc b) = omega (arith, ints)

same_places : (d e : Decimal) → pos (places d e) +ℤ first_place e ≡ pos (places e d) +ℤ first_place d
same_places d e = omega (arith, ints, gap d.power e.power)

lower_units : (d e : Decimal) → IsDecimal d → IsDecimal e → ¬ (e ≡ zero_decimal) → places d e < places e d → units d e < units e d
lower_units d e h g some lt =
    omega (
      arith,
      units_is d e,
      units_is e d,
      lower_digits (places d e) (places e d) d.digits e.digits (has_digits d h).are
          (has_digits e g) (some_digits e g some) lt,
    )

module _ (d e : Decimal) (h : IsDecimal d) (g : IsDecimal e) where
  pub zero_least : d ≡ zero_decimal → true ≡ is_magnitude_at_most d e
  zero_least is = sym (le-leb (units d e) (units e d) (omega (arith, zero_units d e is)))

  pub not_under_zero : ¬ (d ≡ zero_decimal) → e ≡ zero_decimal → false ≡ is_magnitude_at_most d e
  not_under_zero some is = sym (lt-leb (units d e) (units e d) (omega (arith, some_units d e h some, zero_units e d is)))

  pub by_place : ¬ (d ≡ zero_decimal) → ¬ (e ≡ zero_decimal) → (y z : ℤ) → y ≡ first_place d → z ≡ first_place e → ¬ (y ≡ z)
      → lt_z y z ≡ is_magnitude_at_most d e
  by_place some other y z ey ez differ =
      ⊎_elim
      (λ lt. let less : lt_z y z ≡ true = grind (arith, ints, same_places d e) in less
      ∙ sym (le-leb (units d e) (units e d) (omega (arith, lower_units d e h g other lt))))
      (λ le.
      let apart : ¬ (places d e ≡ places e d) = λ same. differ (omega (arith, ints, same_places d e)) in
      let lt : places e d < places d e = omega (arith, le, apart) in
      let more : lt_z y z ≡ false = grind (arith, ints, same_places d e) in
      more ∙ sym (lt-leb (units d e) (units e d) (lower_units e d g h some lt)))
      (cases_lt (places d e) (places e d))

  pub by_same_place : first_place d ≡ first_place e → is_le (slice_cmp nat_cmp d.digits e.digits) ≡ is_magnitude_at_most d e
  by_same_place same =
      let k : ℕ = places d e in
      let is : places e d ≡ k = omega (arith, ints, same_places d e) in
      let a = has_digits d h in
      let b = has_digits e g in
      by_digits k d.digits e.digits (record { are = a.are; ends = a.ends; room = omega arith })
      (record { are = b.are; ends = b.ends; room = omega arith })
      ∙ (λ i. nat_le (sym (units_is d e) i) ((ap (λ j. padded j e.digits) (sym is) ∙ sym (units_is e d)) i))

-- ---- signs

-- a number below zero is not zero
below_some : (d : Decimal) → d.negative ≡ true → ¬ (d ≡ zero_decimal)
below_some d is none = true≢false (sym is ∙ ap (λ (z : Decimal). z.negative) none)

above_below : (a b : ℕ) → 0 < b → false ≡ int_le (pos a) (neg_ℤ (pos b))
above_below a zero h = absurd (omega arith)
above_below a (suc b) h = refl

below_above : (a b : ℕ) → true ≡ int_le (neg_ℤ (pos a)) (pos b)
below_above zero b = sym (le-leb 0 b (omega arith))
below_above (suc a) b = refl

pub positive_negative : (d e : Decimal) → IsDecimal e → d.negative ≡ false → e.negative ≡ true → false ≡ is_at_most d e
positive_negative d e g p n =
    above_below (units d e) (units e d) (some_units e d g (below_some e n))
    ∙ (λ i. int_le (cond (sym p i) (neg_ℤ (pos (units d e))) (pos (units d e)))
    (cond (sym n i) (neg_ℤ (pos (units e d))) (pos (units e d))))

pub negative_positive : (d e : Decimal) → d.negative ≡ true → e.negative ≡ false → true ≡ is_at_most d e
negative_positive d e n p =
    below_above (units d e) (units e d)
    ∙ (λ i. int_le (cond (sym n i) (neg_ℤ (pos (units d e))) (pos (units d e)))
    (cond (sym p i) (neg_ℤ (pos (units e d))) (pos (units e d))))

-- ---- less

pub less_unless : (x y : ℤ) → not (int_le y x) ≡ int_lt x y
less_unless x y = grind (arith, ints)
