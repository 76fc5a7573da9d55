-- Which texts are patterns, and which texts they match, as tests.
use Rattle.std.specs.Prelude.{ℕ, zero, suc, Bool, false, List, [], ◌∷◌, ◌++◌, length, Option, Some, None, cond, is_some, option_map}
use Rattle.std.specs.Prelude.{option_and_then}
use Rattle.std.specs.Option.{option_map_or}
use Rattle.text_iregexp.specs.Deciding.{matches}
use Rattle.text_iregexp.specs.Patterns.{Mark, Pattern, IsText, IsFound, are_distinct}
use Rattle.text_iregexp.specs.PatternFronts.{next_front}
use Rattle.text_iregexp.specs.PatternCases.{CasesState, no_cases, is_closed, pattern_in, run_cases, pattern_form}

-- The first text is a pattern that matches a part of the second.
pub record PatternFound (ps cs : List ℕ) : Type 0 where
  pub pattern : Pattern
  pub text : IsText ps pattern
  pub found : IsFound pattern cs

abbrev pub with_mark : Mark → List (List ℕ) → List Mark × List (List ℕ) → List Mark × List (List ℕ)
with_mark m names q = (m ∷ q.0, names ++ q.1)

-- the marks of a text with at most n characters, and the names of its groups
abbrev pub marks_in : ℕ → List ℕ → Option (List Mark × List (List ℕ))
marks_in zero [] = Some ([], [])
marks_in zero (c ∷ cs) = None
marks_in (suc n) [] = Some ([], [])
marks_in (suc n) (c ∷ cs) = option_and_then (λ p. option_map (with_mark p.0 p.1.0) (marks_in n p.1.1)) (next_front (c ∷ cs))

-- the marks, unless two groups have the same name
abbrev pub distinct_marks : List Mark × List (List ℕ) → Option (List Mark)
distinct_marks q = cond (are_distinct q.1) (Some q.0) None

-- the pattern that was parsed, if no group or look-ahead is open
abbrev pub whole_pattern : CasesState → Option Pattern
whole_pattern s = cond (is_closed s) (Some (pattern_in s)) None

-- the pattern that the text is
abbrev pub pattern_of : List ℕ → Option Pattern
pattern_of cs =
    option_and_then whole_pattern (option_and_then (run_cases no_cases) (option_and_then distinct_marks (marks_in (length cs) cs)))

-- the text is a pattern
abbrev pub is_pattern : List ℕ → Bool
is_pattern ps = is_some (pattern_of ps)

-- the first text is a pattern that matches a part of the second
abbrev pub is_found : List ℕ → List ℕ → Bool
is_found ps cs = option_map_or (λ p. matches (pattern_form p) cs) (pattern_of ps) false
