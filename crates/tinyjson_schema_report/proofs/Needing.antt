-- What tokens lead to, one after another.
use Rattle.std.proofs.Common.{◌≡◌, ℕ, List, ◌+◌, ◌<◌, ◌≤◌, Option, Some, None, drop, get_or, length, map, String, Global, sym, ap, ◌∙◌}
use Rattle.std.specs.Prelude.{option_and_then}
use Rattle.tinyjson.specs.Tree.{Tree}
use Rattle.tinyjson.specs.View.{text}
use Rattle.tinyjson_schema_keywords.proofs.Callers.{drop_item, drop_end}
use Rattle.tinyjson_schema_report.specs.Refused.{At, needs_at, needs_next}

module _ (ts : List (String Global)) (i : ℕ) (at : At) (whole : Option At) where
  split : (x : String Global) → i < length ts → x ≡ get_or ts i x
      → needs_at at (map text (drop i ts)) ≡ option_and_then (λ n. needs_at n (map text (drop (i + 1) ts))) (needs_next at (text x))
  split x h e = ap (λ xs. needs_at at (map text xs)) (drop_item ts i x h e)

  pub went_on : (x : String Global) (next : At) → i < length ts → x ≡ get_or ts i x → Some next ≡ needs_next at (text x)
      → needs_at at (map text (drop i ts)) ≡ whole → needs_at next (map text (drop (i + 1) ts)) ≡ whole
  went_on x next h e g left =
      ap (option_and_then (λ n. needs_at n (map text (drop (i + 1) ts)))) g ∙ (sym (split x h e) ∙ left)

  pub went_nowhere : (x : String Global) → i < length ts → x ≡ get_or ts i x → None ≡ needs_next at (text x)
      → needs_at at (map text (drop i ts)) ≡ whole → None ≡ whole
  went_nowhere x h e g left =
      ap (option_and_then (λ n. needs_at n (map text (drop (i + 1) ts)))) g ∙ (sym (split x h e) ∙ left)

  pub went : length ts ≤ i → needs_at at (map text (drop i ts)) ≡ whole → Some at ≡ whole
  went h left = ap (λ xs. needs_at at (map text xs)) (sym (drop_end ts i h)) ∙ left
