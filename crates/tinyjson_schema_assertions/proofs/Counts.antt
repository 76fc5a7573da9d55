-- Counts against limits that are whole numbers.
use Rattle.std.proofs.Common.{◌≡◌, ℕ, ◌+◌, ◌-◌, ◌*◌, ◌^◌, ◌<◌, ◌≤◌, Bool, false, nat_le, cond, List, [], ◌∷◌, ℤ, pos, neg_ℤ, int_le}
use Rattle.std.proofs.Common.{Option, Some, refl, sym, ap, ap₂, ◌∙◌, ⊎_elim, arith}
use Rattle.std.specs.Int.{int_gap}
use Rattle.std.specs.Prelude.{unsigned_abs}
use Rattle.std.specs.Str.Parse.{digits_value}
use Rattle.std.proofs.Math.Nat.{mul_assoc, one-le-pow, mul-le-mul_right}
use Rattle.std.proofs.lemmas.Bool.{le-leb, lt-leb, cases_lt}
use Rattle.std.proofs.lemmas.Nat.{pow-add}
use Rattle.tinyjson_number.specs.Decimal.{Decimal, decimal_of, significant, trailing_zeros}
use Rattle.tinyjson_number.specs.Text.{natural_text}
use Rattle.tinyjson_number.proofs.Callers.{magnitude_of, magnitude_whole}
use Rattle.tinyjson.specs.Tree.{Tree, number}
use Rattle.tinyjson_number.specs.Order.{units, is_at_most}
use Rattle.tinyjson_schema_assertions.specs.Assertions.{count, is_count_at_most, is_count_at_least}

-- ---- numbers times the same

below_times : (x y p : ℕ) → x < y → 1 ≤ p → x * p < y * p
below_times x y p lt some = omega (arith, mul-le-mul_right {m = x + 1} {n = y} p (omega arith))

same_times : (x y p : ℕ) → 1 ≤ p → nat_le x y ≡ nat_le (x * p) (y * p)
same_times x y p some =
    ⊎_elim
    (λ lt. lt-leb x y lt ∙ sym (lt-leb (x * p) (y * p) (below_times y x p lt some)))
    (λ le. le-leb x y le ∙ sym (le-leb (x * p) (y * p) (mul-le-mul_right {m = x} {n = y} p le)))
    (cases_lt y x)

-- x with i zeros, then with j more
zeros_more : (x i j k : ℕ) → i + j ≡ k → x * 10 ^ i * 10 ^ j ≡ x * 10 ^ k
zeros_more x i j k e = mul_assoc x (10 ^ i) (10 ^ j) ∙ ap (λ n. x * n) (sym (pow-add 10 i j) ∙ ap (λ n. 10 ^ n) e)

-- ---- whole numbers

whole_power : (negative : Bool) (ds : List ℕ) (z : ℕ) (d : Decimal) → d ≡ decimal_of negative ds (pos z)
    → d.power ≡ pos (unsigned_abs d.power)
whole_power negative [] z d e = ap (λ (d : Decimal). d.power) e ∙ sym (ap (λ (d : Decimal). pos (unsigned_abs d.power)) e)
whole_power negative (c ∷ cs) z d e = ap (λ (d : Decimal). d.power) e ∙ sym (ap (λ (d : Decimal). pos (unsigned_abs d.power)) e)

no_sign : (ds : List ℕ) (p : ℤ) → (decimal_of false ds p).negative ≡ false
no_sign [] p = refl
no_sign (c ∷ cs) p = refl

-- the units of a decimal with the power p, of which j are left out, and its whole number
all_units : (d e : Decimal) (p q j : ℕ) → d.power ≡ pos p → e.power ≡ pos q → (p - q) + j ≡ p → units d e * 10 ^ j ≡ magnitude_of d
unfolding units
all_units d e p q j a b h =
    ap (λ k. digits_value 10 d.digits * 10 ^ k * 10 ^ j) (λ i. int_gap (b i) (a i))
    ∙ (zeros_more (digits_value 10 d.digits) (p - q) j p h ∙ ap (λ z. digits_value 10 d.digits * 10 ^ unsigned_abs z) (sym a))

-- two decimals without signs whose powers are not below zero are in the order of their whole numbers
by_magnitudes : (d e : Decimal) (p q : ℕ) → d.negative ≡ false → e.negative ≡ false → d.power ≡ pos p → e.power ≡ pos q
    → is_at_most d e ≡ nat_le (magnitude_of d) (magnitude_of e)
by_magnitudes d e p q f g a b =
    let j : ℕ = p - (p - q) in
    (λ i. int_le (cond (f i) (neg_ℤ (pos (units d e))) (pos (units d e))) (cond (g i) (neg_ℤ (pos (units e d))) (pos (units e d))))
    ∙ (same_times (units d e) (units e d) (10 ^ j) (one-le-pow j 10 (omega arith))
    ∙ (λ i. nat_le (all_units d e p q j a b (omega arith) i) (all_units e d q p j b a (omega arith) i)))

counts_ordered : (n k : ℕ) → n < 2 ^ 64 → k < 2 ^ 64 → nat_le n k ≡ is_at_most (count n) (count k)
counts_ordered n k fn fk =
    let d = count n in
    let e = count k in
    sym (by_magnitudes d e (unsigned_abs d.power) (unsigned_abs e.power) (no_sign (significant (natural_text n)) _)
    (no_sign (significant (natural_text k)) _)
    (whole_power false (significant (natural_text n)) (trailing_zeros (natural_text n)) d refl)
    (whole_power false (significant (natural_text k)) (trailing_zeros (natural_text k)) e refl)
    ∙ (λ i. nat_le (magnitude_whole false n fn i) (magnitude_whole false k fk i)))

-- a count and a limit that is a whole number, without their decimals
pub counted_at_most : (found : Option ℕ) (n k : ℕ) (w : Tree) → found ≡ Some n → w ≡ number (count k) → n < 2 ^ 64 → k < 2 ^ 64
    → nat_le n k ≡ is_count_at_most found w
counted_at_most found n k w f l fn fk = counts_ordered n k fn fk ∙ ap₂ is_count_at_most (sym f) (sym l)

pub counted_at_least : (found : Option ℕ) (n k : ℕ) (w : Tree) → found ≡ Some n → w ≡ number (count k) → n < 2 ^ 64 → k < 2 ^ 64
    → nat_le k n ≡ is_count_at_least found w
counted_at_least found n k w f l fn fk = counts_ordered k n fk fn ∙ ap₂ is_count_at_least (sym f) (sym l)
