-- The text of a short number: its bytes, and what it is read as.
use Rattle.std.proofs.Common.{◌≡◌, ℕ, ◌≤◌, List, length, Some, option_map, refl, sym, ◌∙◌, ap, subst, inl}
use Rattle.std.proofs.Common.{encode_utf8_all, Result, Ok, Err, true≢false}
use Rattle.std.proofs.lemmas.Str.{encodes-IsAscii, encodes-chars, IsUtf8-from_ascii}
use Rattle.std.specs.Result.{result_ok}
use Rattle.std.specs.Str.{IsUtf8}
use Rattle.tinyjson_number.proofs.Callers.{decimal_ascii, one_decimal, one_numeral, text_is_number}
use Rattle.tinyjson_number.specs.Canonical.{IsDecimal}
use Rattle.tinyjson_number.specs.Decimal.{Decimal}
use Rattle.tinyjson_number.specs.Number.{Canonical}
use Rattle.tinyjson_number.specs.NumberText.{IsNumberText}
use Rattle.tinyjson_number.specs.Numeral.{in_range, power_width, value}
use Rattle.tinyjson_number.specs.Reading.{Reads}
use Rattle.tinyjson_number.specs.Text.{decimal_text}
use Rattle.tinyjson_number.specs.declared.error.JsonNumberError.{JsonNumberError}
use Rattle.tinyjson_number.specs.declared.error.JsonNumberError.TheVariants.{NotANumber, OutOfRange, OutOfMemory}
use Rattle.tinyjson_cells.specs.Cell.{IsNumber, IsText}
use Rattle.tinyjson_cells.specs.declared.store.Cell.TheVariants.{Short}
use Rattle.tinyjson_cells.specs.declared.store.Span.{Span}
use Rattle.tinyjson_cells.specs.declared.store.Store.{Store}

pub number_bytes : (d : Decimal) → IsDecimal d → encode_utf8_all (decimal_text d) ≡ decimal_text d
number_bytes d h = encodes-IsAscii (decimal_text d) (decimal_ascii d h)

pub number_utf8 : (d : Decimal) → IsDecimal d → IsUtf8 (decimal_text d)
number_utf8 d h = IsUtf8-from_ascii (decimal_text d) (decimal_ascii d h)

-- what a short text is read as
pub read_back : (d : Decimal) (text : List ℕ) (r : Result Canonical JsonNumberError) → IsDecimal d → text ≡ decimal_text d
    → Reads text r → (length text ≤ 24 → ¬ (r ≡ Err OutOfMemory)) → length (decimal_text d) ≤ 24
    → option_map (λ x. x.decimal) (result_ok r) ≡ Some d
read_back d text r c e h few l =
    by r (subst (λ t. IsNumberText t d) (sym e) (text_is_number power_width d c)) h (few (subst (λ t. length t ≤ 24) (sym e) l))
  where
    by : (r : Result Canonical JsonNumberError) → IsNumberText text d → Reads text r → ¬ (r ≡ Err OutOfMemory)
        → option_map (λ x. x.decimal) (result_ok r) ≡ Some d
    by (Ok x) t h n = ap Some (one_decimal power_width power_width text x.decimal d h t)
    by (Err NotANumber) t h n = absurd (h t.0 t.1)
    by (Err OutOfRange) t h n =
        absurd (true≢false (sym t.3 ∙ ap in_range (sym t.2 ∙ ap value (one_numeral text t.0 h.0 t.1 h.1)) ∙ h.2))
    by (Err OutOfMemory) t h n = absurd (n refl)

-- a range with the characters of a short number has its text
pub short_at : (s : Store) (n : Canonical) (cs : List ℕ) (p : Span) → cs ≡ decimal_text n.decimal → length cs ≤ 24 → IsText s cs p
    → IsNumber s n.decimal (Short p)
short_at s n cs p e few h = inl (
  p,
  refl,
  record {
    within = h.within;
    text = sym (encodes-chars _ h.utf8) ∙ (ap encode_utf8_all (sym h.characters ∙ e) ∙ number_bytes n.decimal n.canonical);
    few = subst (λ t. length t ≤ 24) e few;
    canonical = n.canonical;
  },
)
