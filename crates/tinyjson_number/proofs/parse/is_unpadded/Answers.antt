use Rattle.std.proofs.Common.{◌≡◌, ◌≢◌, ◌<◌, ◌-◌, ◌++◌, ℕ, List, length, get_or, sym, ap, ◌∙◌, arith, append-nil, length-append}
use Rattle.std.proofs.lemmas.List.{get_or_append_left, get_or-append_right, nil_from_length}
use Rattle.tinyjson_number.proofs.Strips.{strip_leading_none, strip_trailing_none}
use Rattle.tinyjson_number.proofs.parse.is_unpadded.Goals as goal

first_of : (w f : List ℕ) → 0 < length w → get_or w 0 0 ≢ 48 → get_or (w ++ f) 0 0 ≢ 48
first_of w f some h e = h (sym (get_or_append_left w f 0 0 some) ∙ e)

last_of : (w f : List ℕ) → 0 < length f → get_or f (length f - 1) 0 ≢ 48 → get_or (w ++ f) (length (w ++ f) - 1) 0 ≢ 48
last_of w f some h e = grind (arith, length-append, get_or-append_right)

last_alone : (w f : List ℕ) → length f ≡ 0 → get_or w (length w - 1) 0 ≢ 48 → get_or (w ++ f) (length (w ++ f) - 1) 0 ≢ 48
last_alone w f none h e = h (sym (ap (λ t. get_or t (length t - 1) 0) (ap (λ g. w ++ g) (nil_from_length f none) ∙ append-nil w)) ∙ e)

pub returns-then-is_empty-2 : goal.returns-then-is_empty-2
returns-then-is_empty-2 c = grind (arith, strip_leading_none, first_of, strip_trailing_none, last_alone)

pub returns : goal.returns
returns c = grind (arith, strip_leading_none, first_of, strip_trailing_none, last_of)
