-- Durations (RFC 3339, appendix A). Letters may have either case.
use Rattle.std.specs.Prelude.{ℕ, Bool, true, false, ◌&&◌, ◌||◌, ◌==◌, not, List, [], ◌∷◌, Option, Some, None, cond, codes}
use Rattle.std.specs.Option.{option_map_or}
use Rattle.text_formats.specs.Letters.{is_empty, is_not_digit, after_word}
use Rattle.text_uri.specs.Letters.{before, from}

-- what follows digits and the unit, as in `1*DIGIT "M"`
abbrev pub after_unit : ℕ → List ℕ → Option (List ℕ)
after_unit unit text = cond (is_empty (before is_not_digit text)) None (after_word (unit ∷ []) (from is_not_digit text))

-- what follows the units, one after the other as far as they are there, as in `["M" ["D"]]`
abbrev pub after_chain : List ℕ → List ℕ → List ℕ
after_chain [] text = text
after_chain (unit ∷ units) text = option_map_or (after_chain units) (after_unit unit text) text

-- what follows one of the units and the chain behind it, as in `dur-date`
abbrev pub after_units : List ℕ → List ℕ → Option (List ℕ)
after_units [] text = None
after_units (unit ∷ units) text = option_map_or {U = Option (List ℕ)} (λ rest. Some (after_chain units rest)) (after_unit unit text)
    (after_units units text)

abbrev pub is_rest : Option (List ℕ) → Bool
is_rest None = false
is_rest (Some rest) = is_empty rest

-- `[dur-time]`
abbrev pub is_time_part : List ℕ → Bool
is_time_part [] = true
is_time_part (c ∷ cs) = ((c == 84) || (c == 116)) && is_rest (after_units (codes "HMS") cs)

abbrev pub is_dates : List ℕ → Option (List ℕ) → Bool
is_dates text None = not (is_empty text) && is_time_part text
is_dates text (Some rest) = is_time_part rest

-- `"P" (dur-date / dur-time / dur-week)`
abbrev pub is_duration : List ℕ → Bool
is_duration [] = false
is_duration (c ∷ cs) = ((c == 80) || (c == 112)) && (is_dates cs (after_units (codes "YMD") cs) || is_rest (after_unit 87 cs))
