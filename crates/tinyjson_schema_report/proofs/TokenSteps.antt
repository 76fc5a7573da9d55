-- Where tokens lead, one after another.
use Rattle.std.proofs.Common.{◌≡◌, ℕ, List, ◌+◌, ◌<◌, ◌≤◌, Option, Some, None, option_map, drop, get_or, length, map, String, Global}
use Rattle.std.proofs.Common.{sym, ap, ap₂, ◌∙◌}
use Rattle.std.specs.Prelude.{option_and_then}
use Rattle.tinyjson.specs.Tree.{Tree}
use Rattle.tinyjson.specs.View.{text}
use Rattle.tinyjson_schema_keywords.proofs.Callers.{drop_item, drop_end}
use Rattle.tinyjson_schema_keywords.specs.declared.keyword.Keyword.{Keyword}
use Rattle.tinyjson_schema_report.specs.Ends.{At, ends_at, goes_on, keyword_in, value_in}

module _ (root : Tree) (ts : List (String Global)) (i : ℕ) (at : At) (whole : Option At) where
  split : (x : String Global) → i < length ts → x ≡ get_or ts i x
      → ends_at root at (map text (drop i ts))
      ≡ option_and_then (λ n. ends_at root n (map text (drop (i + 1) ts))) (goes_on root at (text x))
  split x h e = ap (λ xs. ends_at root at (map text xs)) (drop_item ts i x h e)

  pub led_on : (x : String Global) (next : At) → i < length ts → x ≡ get_or ts i x → Some next ≡ goes_on root at (text x)
      → ends_at root at (map text (drop i ts)) ≡ whole → ends_at root next (map text (drop (i + 1) ts)) ≡ whole
  led_on x next h e g left =
      ap (option_and_then (λ n. ends_at root n (map text (drop (i + 1) ts)))) g ∙ (sym (split x h e) ∙ left)

  pub led_nowhere : (x : String Global) → i < length ts → x ≡ get_or ts i x → None ≡ goes_on root at (text x)
      → ends_at root at (map text (drop i ts)) ≡ whole → None ≡ whole
  led_nowhere x h e g left =
      ap (option_and_then (λ n. ends_at root n (map text (drop (i + 1) ts)))) g ∙ (sym (split x h e) ∙ left)

  pub led : length ts ≤ i → ends_at root at (map text (drop i ts)) ≡ whole → Some at ≡ whole
  led h left = ap (λ xs. ends_at root at (map text xs)) (sym (drop_end ts i h)) ∙ left

pub went_on : (root : Tree) (at : At) (l : List ℕ) (k : Option Keyword) (o : Option Tree) → k ≡ keyword_in at.0 l
    → o ≡ value_in root k at.1 l → option_map (λ u. (k, u)) o ≡ goes_on root at l
went_on root at l k o e h =
    ap₂ (λ x y. option_map (λ u. (x, u)) y) e (h ∙ ap (λ x. value_in root x at.1 l) e)
