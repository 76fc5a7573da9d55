-- Where a text is cut at `=`.
use Rattle.std.proofs.Common.{◌≡◌, ◌∙◌, ap, sym, ℕ, ◌<◌, true, false, List, Some, None, cond, length, arith}
use Rattle.std.proofs.lemmas.Bool.Decides.{nat_tests}
use Rattle.std.specs.List.{position_or_len, before_first, after_first}
use Rattle.json_schema.specs.Names.{is_equals, has_equals, located}

pub cut_here : (text uri name : List ℕ) → (position_or_len is_equals text < length text) × (uri ≡ before_first is_equals text)
    × (name ≡ after_first is_equals text) → (Some uri, name) ≡ located text
cut_here text uri name h =
    let here : has_equals text ≡ true = grind (arith, nat_tests, h.0) in
    ap (λ u. (Some u, name)) h.1 ∙ (ap (λ n. (Some (before_first is_equals text), n)) h.2
    ∙ sym (ap (λ b. cond b (Some (before_first is_equals text), after_first is_equals text) (None, text)) here))

pub cut_nowhere : (text : List ℕ) → position_or_len is_equals text ≡ length text → (None, text) ≡ located text
cut_nowhere text h =
    let nowhere : has_equals text ≡ false = grind (arith, nat_tests, h) in
    sym (ap (λ b. cond b (Some (before_first is_equals text), after_first is_equals text) (None, text)) nowhere)
