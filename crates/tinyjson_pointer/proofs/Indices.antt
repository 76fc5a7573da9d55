-- Tokens that are indices.
use Rattle.std.proofs.Common.{◌≡◌, ◌<◌, get_or, String, Global, string_bytes, lit<, ◌∷◌, ◌≤◌, ◌^◌, ℕ, zero, suc, Bool, true, false}
use Rattle.std.proofs.Common.{true≢false, OnOk, ◌&&◌, ◌||◌, not, ◌==◌, cond, length, List, [], Option, Some, None, Result, Ok, Err}
use Rattle.std.proofs.Common.{MatchOption, encode_utf8_all, refl, sym, ap, ◌∙◌, subst, rules, arith}
use Rattle.std.proofs.lemmas.Bool.{and_parts, or_right}
use Rattle.std.proofs.lemmas.Bool.Decides.{nat_tests}
use Rattle.std.proofs.lemmas.Fmt.{digits_decimal, digits_value-decimal, decimal_digit, decimal_nonempty, first_decimal, IsAscii-decimal}
use Rattle.std.proofs.lemmas.Str.{chars-IsAscii, encodes-chars, IsUtf8-from_ascii}
use Rattle.std.proofs.lemmas.Str.Parse.{IsNumeralModel, numerals_by_value, tells_all_ascii_digits, parse_digits}
use Rattle.std.specs.Char.{is_ascii_digit}
use Rattle.std.specs.Result.{result_ok, OkIff}
use Rattle.std.specs.Str.{IsAscii, IsUtf8, chars, all_ascii_digits}
use Rattle.std.specs.Str.Parse.{ParsesUnsigned, digits_value}
use Rattle.std.specs.Fmt.{decimal}
use Rattle.tinyjson.specs.View.{text}
use Rattle.tinyjson_pointer.specs.Index.{HasIndexBefore, is_nil, is_index, index_of}

own : IsNumeralModel (λ ds. all_ascii_digits ds ≡ true) (digits_value 10)
own = numerals_by_value _ tells_all_ascii_digits

digits_in : (cs : List ℕ) → is_index cs ≡ true → all_ascii_digits cs ≡ true
digits_in [] h = absurd (true≢false (sym h))
digits_in (c ∷ cs) h = (and_parts (all_ascii_digits (c ∷ cs)) (is_nil cs || not (c == 48)) h).0

some_in : (cs : List ℕ) → is_index cs ≡ true → 0 < length cs
some_in [] h = absurd (true≢false (sym h))
some_in (c ∷ cs) h = omega arith

digit_below : (c : ℕ) → is_ascii_digit c ≡ true → c < 128
digit_below c h = search rules

ascii : (cs : List ℕ) → all_ascii_digits cs ≡ true → IsAscii cs
ascii [] h i = omega arith
ascii (c ∷ cs) h zero = digit_below c (and_parts _ (all_ascii_digits cs) h).0
ascii (c ∷ cs) h (suc i) = ascii cs (and_parts _ (all_ascii_digits cs) h).1 i

index_chars : (bs : List ℕ) → IsUtf8 bs → index_of (chars bs) ≡ index_of bs
index_chars bs u = by (is_index bs) (is_index (chars bs)) refl refl
  where
    by : (a b : Bool) → is_index bs ≡ a → is_index (chars bs) ≡ b → index_of (chars bs) ≡ index_of bs
    by true b e f = ap index_of (chars-IsAscii bs (ascii bs (digits_in bs e)))
    by false true e f =
        let plain : IsAscii (chars bs) = ascii (chars bs) (digits_in (chars bs) f) in
        let same : encode_utf8_all (chars bs) ≡ chars bs = ap encode_utf8_all (sym (chars-IsAscii (chars bs) plain))
        ∙ encodes-chars (chars bs) (IsUtf8-from_ascii (chars bs) plain) in
        ap index_of (sym same ∙ encodes-chars bs u)
    by false false e f = ap (λ b. cond b (Some (digits_value 10 (chars bs))) None) f
        ∙ sym (ap (λ b. cond b (Some (digits_value 10 bs)) None) e)

pub no_index : (bs : List ℕ) → IsUtf8 bs → is_index bs ≡ false → (i : ℕ) → index_of (chars bs) ≡ Some i → 2 ^ 64 ≤ i
no_index bs u e i h =
    let none : None ≡ Some i = sym (ap (λ b. cond b (Some (digits_value 10 bs)) None) e) ∙ (sym (index_chars bs u) ∙ h) in
    absurd (some_none i none)
  where
    some_none : (i : ℕ) → None ≡ Some i → ⊥
    some_none i h = cc

is_value : (bs : List ℕ) → IsUtf8 bs → is_index bs ≡ true → index_of (chars bs) ≡ Some (digits_value 10 bs)
is_value bs u e = index_chars bs u ∙ ap (λ b. cond b (Some (digits_value 10 bs)) None) e

from_result : {E : Type 0} (bs : List ℕ) (r : Result ℕ E) → IsUtf8 bs → is_index bs ≡ true
    → OkIff r ((0 < length bs) × (digits_value 10 bs < 2 ^ 64)) (digits_value 10 bs)
    → MatchOption (result_ok r) ((i : ℕ) → index_of (chars bs) ≡ Some i → 2 ^ 64 ≤ i) (λ i. index_of (chars bs) ≡ Some i)
from_result bs (Ok x) u e h = is_value bs u e ∙ ap Some (sym h.1)
from_result bs (Err x) u e h = λ i g.
    let below : digits_value 10 bs < 2 ^ 64 → ⊥ = λ l. h (some_in bs e, l) in
    let same : Some (digits_value 10 bs) ≡ Some i = sym (is_value bs u e) ∙ g in
    let is : digits_value 10 bs ≡ i = cc in
    omega arith

pub index_says : {E : Type 0} (bs : List ℕ) (r : Result ℕ E) (o : Option ℕ) → IsUtf8 bs → is_index bs ≡ true → ParsesUnsigned 64 10 bs r
    → o ≡ result_ok r
    → MatchOption o ((i : ℕ) → index_of (chars bs) ≡ Some i → 2 ^ 64 ≤ i) (λ i. index_of (chars bs) ≡ Some i)
index_says bs r o u e h is =
    subst (λ p. MatchOption p ((i : ℕ) → index_of (chars bs) ≡ Some i → 2 ^ 64 ≤ i) (λ i. index_of (chars bs) ≡ Some i)) (sym is)
    (from_result bs r u e (parse_digits own 64 bs r h (digits_in bs e)))

-- ---- the token of an index

isnt_zero : (c : ℕ) → 48 < c → (c == 48) ≡ false
isnt_zero c h = grind (arith, nat_tests)

index_token : (ds : List ℕ) (n : ℕ) → all_ascii_digits ds ≡ true → 0 < length ds → (0 < n → 48 < get_or ds 0 0) → (n ≡ 0 → ds ≡ 48 ∷ [])
    → is_index ds ≡ true
index_token [] n h k f z = absurd (omega arith)
index_token (c ∷ ds) zero h k f z = ap is_index (z refl)
index_token (c ∷ ds) (suc n) h k f z =
    ap (λ a. a && (is_nil ds || not (c == 48))) h ∙ (ap (λ e. is_nil ds || not e) (isnt_zero c (f (omega arith)))
    ∙ or_right (is_nil ds) true refl)

decimal_zero : (n : ℕ) → n ≡ 0 → decimal n ≡ 48 ∷ []
decimal_zero n e = ap decimal e ∙ decimal_digit 0 (lit< tt)

pub decimal_index : (n : ℕ) → n < 2 ^ 64 → index_of (decimal n) ≡ Some n
decimal_index n h =
    ap (λ b. cond b (Some (digits_value 10 (decimal n))) None)
    (index_token (decimal n) n (digits_decimal own n h) (decimal_nonempty n h) (λ k. first_decimal n k h) (decimal_zero n))
    ∙ ap Some (digits_value-decimal own n h)

-- the text that is the decimal of an index
pub prepended : {T E : Type 0} (r : Result T E) (s : String Global) (n : ℕ) (old new : List (List ℕ)) → n < 2 ^ 64
    → string_bytes s ≡ decimal n → OnOk r (new ≡ text s ∷ old) → OnOk r (HasIndexBefore n old new)
prepended (Ok x) s n old new h b e = record {
  token = text s;
  named =
      ap index_of (ap chars b ∙ chars-IsAscii (decimal n) (IsAscii-decimal n h)) ∙ decimal_index n h;
  joined = e;
}
prepended (Err x) s n old new h b e = tt
