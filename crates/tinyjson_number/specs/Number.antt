-- What a contract sees of a `JsonNumber`.
use Rattle.std.specs.Prelude.{◌≡◌, ℕ, ℤ, ◌&&◌, Bool, List, take, string_bytes}
use Rattle.std.specs.Bool.{beq, Decides}
use Rattle.std.specs.Cmp.{IsEquivalence, booleans_Decides, decided}
use Rattle.std.specs.Coded.{Coded, Coded-set, coded×, coded_ℕ, coded_bool, coded_list, coded_ℤ}
use Rattle.std.specs.Ordering.{int_eq}
use Rattle.std.specs.Str.{bytes_eq}
use Rattle.std.proofs.Common.{ap}
use Rattle.std.proofs.lemmas.Bool.Decides.{Decides-and, Decides-like, Decides-int_eq}
use Rattle.std.proofs.lemmas.Cmp.{on_equiv}
use Rattle.std.proofs.lemmas.Slice.Eq.{bytes_eq-Decides}
use mathlib.Core.HLevel.{is_prop→PathP}
use Rattle.tinyjson_number.specs.declared.digits.Digits.{Digits}
use Rattle.tinyjson_number.specs.declared.digits.Digits.TheVariants.{Short, Long}
use Rattle.tinyjson_number.specs.Decimal.{Decimal}
use Rattle.tinyjson_number.specs.Canonical.{IsDecimal}

-- a decimal, with the fact that it has the one form
pub record Canonical : Type 0 where
  pub decimal : Decimal
  pub canonical : IsDecimal decimal

-- the digits that are kept
abbrev pub digits_of : Digits → List ℕ
digits_of (Short s) = take s.len s.bytes
digits_of (Long s) = string_bytes s

-- equal decimals are equal, whatever shows that they are canonical
pub same_canonical : (a b : Canonical) → a.decimal ≡ b.decimal → a ≡ b
same_canonical a b e = λ i. record {
  decimal = e i;
  canonical = is_prop→PathP (λ j. IsDecimal (e j)) (λ j. Coded-set coded_bool _ _) a.canonical b.canonical i;
}

abbrev pub parts_code : Coded (Bool × (List ℕ × ℤ))
parts_code = coded× coded_bool (coded× (coded_list coded_ℕ) coded_ℤ)

abbrev pub decimal_parts : Decimal → Bool × (List ℕ × ℤ)
decimal_parts d = (d.negative, (d.digits, d.power))

pub same_code : (a b : Canonical) → parts_code.code (decimal_parts a.decimal) ≡ parts_code.code (decimal_parts b.decimal) → a ≡ b
same_code a b h =
    let e = parts_code.inj _ _ h in
    same_canonical a b (λ i. record { negative = (e i).0; digits = (e i).1.0; power = (e i).1.1 })

abbrev pub canonical_code : Coded Canonical
canonical_code = record { code = λ a. parts_code.code (decimal_parts a.decimal); inj = same_code }

-- the test of two decimals for equality
abbrev pub decimal_eq : Decimal → Decimal → Bool
decimal_eq a b = beq a.negative b.negative && (bytes_eq a.digits b.digits && int_eq a.power b.power)

pub decimal_eq_Decides : (a b : Decimal) → Decides (decimal_eq a b) (a ≡ b)
decimal_eq_Decides a b =
    let digits_power = Decides-and _ _ (bytes_eq-Decides a.digits b.digits) (Decides-int_eq a.power b.power) in
    let parts = Decides-and _ _ (booleans_Decides a.negative b.negative) digits_power in
    Decides-like _ (λ p. (λ i. record { negative = p.0 i; digits = p.1.0 i; power = p.1.1 i }))
    (λ e. (ap (λ d. d.negative) e, (ap (λ d. d.digits) e, ap (λ d. d.power) e))) parts

-- what `==` of two numbers returns: whether their decimals are equal
abbrev pub number_eq : Canonical → Canonical → Bool
number_eq a b = decimal_eq a.decimal b.decimal

pub number_eq_equiv : IsEquivalence number_eq
number_eq_equiv = on_equiv (λ (a : Canonical). a.decimal) (decided decimal_eq decimal_eq_Decides)
