-- The result of parsing a pattern; `ReadsCases` and `Refused` are for private contracts.
use Rattle.std.specs.Prelude.{◌≡◌, ℕ, ◌≤◌, ◌+◌, ◌↔◌, Bool, true, false, ◌&&◌, ◌||◌, ◌==◌, cond, List, [], ◌∷◌, ◌++◌, length, ◌⊎◌}
use Rattle.std.specs.Prelude.{map, nat_le, Result, Ok, Err}
use Rattle.std.specs.Option.{option_map_or}
use Rattle.text_iregexp.specs.Characters.{left_parenthesis, question_mark, reverse_solidus, letter_p, capital_p}
use Rattle.text_iregexp.specs.declared.error.IRegexpError.{IRegexpError}
use Rattle.text_iregexp.specs.declared.error.IRegexpErrorKind.{IRegexpErrorKind}
use Rattle.text_iregexp.specs.declared.error.IRegexpErrorKind.TheVariants as kind
use Rattle.text_iregexp.specs.declared.cases.Case.{Case as CaseTree}
use Rattle.std.specs.declared.alloc.Global.{Global}
use Rattle.std.specs.declared.vec.Vec.{Vec}
use Rattle.text_iregexp.specs.declared.pattern.SchemaPattern.{SchemaPattern}
use Rattle.text_iregexp.specs.declared.pattern_error.SchemaPatternError.{SchemaPatternError}
use Rattle.text_iregexp.specs.declared.pattern_error.SchemaPatternErrorKind.{SchemaPatternErrorKind}
use Rattle.text_iregexp.specs.declared.pattern_error.SchemaPatternErrorKind.TheVariants as reason
use Rattle.text_regexp.specs.Building.{choice}
use Rattle.text_regexp.specs.Forms.{Form, Matches}
use Rattle.text_iregexp.specs.Grammar.{is_one_of}
use Rattle.text_iregexp.specs.Limits.{depth_limit, begins_group, ends_group, LargeCount}
use Rattle.text_iregexp.specs.PatternFronts.{code_front}
use Rattle.text_iregexp.specs.Patterns.{equals_sign, exclamation_mark, less_than, letter_u, is_surrogate, Mark, token, look}
use Rattle.text_iregexp.specs.Patterns.{begins_name, is_name_part, Spelled, are_distinct, Pattern, pattern_marks, IsText, IsSmall, IsFound}
use Rattle.text_iregexp.specs.PatternCases.{CasesMean}
use Rattle.text_iregexp.specs.PatternTexts.{case_text}

-- 1 for the mark that begins a group, as a look-ahead is one, and 0 for others
abbrev pub begins_one : Mark → ℕ
begins_one (token t) = begins_group t
begins_one (look negated) = 1

-- 1 for the mark that ends a group, and 0 for others
abbrev pub ends_one : Mark → ℕ
ends_one (token t) = ends_group t
ends_one (look negated) = 0

-- how many groups begin in these marks
abbrev pub begun_groups : List Mark → ℕ
begun_groups [] = 0
begun_groups (m ∷ ms) = begins_one m + begun_groups ms

-- how many groups end in these marks
abbrev pub ended_groups : List Mark → ℕ
ended_groups [] = 0
ended_groups (m ∷ ms) = ends_one m + ended_groups ms

-- The rest begins with a group, and as many groups are open before it as may be nested.
pub record OpensTooMany (marks : List Mark) (rest : List ℕ) : Type 0 where
  pub after : List ℕ
  pub begins : rest ≡ left_parenthesis ∷ after
  pub full : ended_groups marks + depth_limit ≤ begun_groups marks

-- the text is no pattern
abbrev pub IsNone : List ℕ → Type 0
IsNone cs = (p : Pattern) → IsText cs p → ⊥

-- A pattern begins with these marks.
pub record Begins (marks : List Mark) : Type 0 where
  pub more : List Mark
  pub pattern : Pattern
  pub whole : pattern_marks pattern ≡ marks ++ more

-- The text begins with these marks and one more. A pattern begins with all of these, and each such
-- pattern has a branch that is too large.
pub record GrowsTooLarge (cs : List ℕ) (marks : List Mark) : Type 0 where
  pub mark : Mark
  pub front : List ℕ
  pub after : List ℕ
  pub names : List (List ℕ)
  pub split : cs ≡ front ++ after
  pub spelled : Spelled front (marks ++ mark ∷ []) names
  pub distinct : are_distinct names ≡ true
  pub begun : Begins (marks ++ mark ∷ [])
  pub large : (more : List Mark) (p : Pattern) → pattern_marks p ≡ (marks ++ mark ∷ []) ++ more → IsSmall p → ⊥

-- the rest has a count that is too large, or only patterns that are too large begin as the text does
abbrev pub IsLarge : List ℕ → List Mark → List ℕ → Type 0
IsLarge cs marks rest = LargeCount rest ⊎ GrowsTooLarge cs marks

-- what a kind of error means for a text that consists of these marks and the rest
abbrev pub Says : List ℕ → List Mark → List ℕ → IRegexpErrorKind → Type 0
Says cs marks rest kind.Invalid = IsNone cs
Says cs marks rest kind.TooDeep = OpensTooMany marks rest
Says cs marks rest kind.TooLarge = IsLarge cs marks rest
Says cs marks rest kind.OutOfMemory = Unit {0}

-- The text before the place consists of marks, and the kind of the error is right for the text
-- after it.
pub record Refused (cs : List ℕ) (e : IRegexpError) : Type 0 where
  pub front : List ℕ
  pub marks : List Mark
  pub names : List (List ℕ)
  pub rest : List ℕ
  pub split : cs ≡ front ++ rest
  pub placed : e.place ≡ length front
  pub spelled : Spelled front marks names
  pub says : Says cs marks rest e.kind

-- the result of parsing a text into trees
abbrev pub ReadsCases : List ℕ → Result (Vec CaseTree Global) IRegexpError → Type 0
ReadsCases cs (Ok v) = (p : Pattern) × IsText cs p × IsSmall p × CasesMean v.items (p.before ++ p.last ∷ [])
ReadsCases cs (Err e) = Refused cs e

-- ---- patterns that were parsed

-- the letters after a backslash that only ECMA-262 has: \k \p \P, and digits except `0`
abbrev pub is_other_escape : ℕ → Bool
is_other_escape c = (nat_le 49 c && nat_le c 57) || is_one_of (107 ∷ letter_p ∷ capital_p ∷ []) c

-- the code of a surrogate follows `\u`
abbrev pub is_half : List ℕ → Bool
is_half cs = option_map_or (λ p. is_surrogate p.0) (code_front cs) false

-- a character that a name of ECMA-262 may have, and that of a group here may not: one outside of
-- ASCII, or a backslash
abbrev pub is_other_part : ℕ → Bool
is_other_part c = (c == reverse_solidus) || nat_le 128 c

-- such a character follows those of a name
abbrev pub has_other_part : List ℕ → Bool
has_other_part [] = false
has_other_part (c ∷ cs) = cond (is_name_part c) (has_other_part cs) (is_other_part c)

-- what follows `(?<` makes a look-behind, or a name with such a character
abbrev pub is_other_name : List ℕ → Bool
is_other_name [] = false
is_other_name (c ∷ cs) =
    ((c == equals_sign) || (c == exclamation_mark)) || (is_other_part c || (begins_name c && has_other_part cs))

-- what follows `(?` makes no name of a group here
abbrev pub is_other_group : List ℕ → Bool
is_other_group [] = true
is_other_group (c ∷ cs) = cond (c == less_than) (is_other_name cs) true

-- the text begins with something that ECMA-262 has, and that these patterns do not have, or not
-- everywhere: a group that begins with `(?`, as a look-around, or an escape, as a
-- back-reference or a surrogate
abbrev pub is_outside : List ℕ → Bool
is_outside [] = false
is_outside (c ∷ []) = false
is_outside (c ∷ d ∷ cs) =
    ((c == left_parenthesis) && ((d == question_mark) && is_other_group cs))
    || ((c == reverse_solidus) && (is_other_escape d || ((d == letter_u) && is_half cs)))

-- the kind of an error, which depends on the text at its place
abbrev pub kind_at : List ℕ → IRegexpErrorKind → SchemaPatternErrorKind
kind_at rest kind.Invalid = cond (is_outside rest) reason.Outside reason.Invalid
kind_at rest kind.TooDeep = reason.TooDeep
kind_at rest kind.TooLarge = reason.TooLarge
kind_at rest kind.OutOfMemory = reason.OutOfMemory

-- what a kind of error means for a text that consists of these marks and the rest
abbrev pub SaysOf : List ℕ → List Mark → List ℕ → SchemaPatternErrorKind → Type 0
SaysOf cs marks rest reason.Invalid = IsNone cs
SaysOf cs marks rest reason.Outside = IsNone cs × (is_outside rest ≡ true)
SaysOf cs marks rest reason.TooDeep = OpensTooMany marks rest
SaysOf cs marks rest reason.TooLarge = IsLarge cs marks rest
SaysOf cs marks rest reason.OutOfMemory = Unit {0}

-- The text before the place consists of marks, and the kind of the error is right for the text
-- after it.
pub record IsRefused (cs : List ℕ) (e : SchemaPatternError) : Type 0 where
  pub front : List ℕ
  pub marks : List Mark
  pub names : List (List ℕ)
  pub rest : List ℕ
  pub split : cs ≡ front ++ rest
  pub placed : e.place ≡ length front
  pub spelled : Spelled front marks names
  pub says : SaysOf cs marks rest e.kind

-- the texts that the pattern matches somewhere, as a regular expression
abbrev pub texts_of : SchemaPattern → Form
texts_of x = choice (map case_text x.cases.items)

-- The text is this pattern and no other, and none of its branches is too large. What was parsed
-- matches in the same texts.
pub record IsReading (cs : List ℕ) (x : SchemaPattern) : Type 0 where
  pub meant : Pattern
  pub text : IsText cs meant
  pub only : (q : Pattern) → IsText cs q → q ≡ meant
  pub small : IsSmall meant
  pub same : (ds : List ℕ) → Matches (texts_of x) ds ↔ IsFound meant ds

-- the result of parsing a text
abbrev pub ReadsPattern : List ℕ → Result SchemaPattern SchemaPatternError → Type 0
ReadsPattern cs (Ok x) = IsReading cs x
ReadsPattern cs (Err e) = IsRefused cs e
