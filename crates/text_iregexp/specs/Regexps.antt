-- A parsed regular expression.
use Rattle.std.specs.Prelude.{◌≡◌, ℕ, ◌≤◌, List, Result, Ok, Err}
use Rattle.text_iregexp.specs.declared.error.IRegexpError.{IRegexpError}
use Rattle.text_iregexp.specs.declared.regexp.IRegexp.{IRegexp}
use Rattle.text_regexp.specs.Forms.{Form, Matches, Searches}
use Rattle.text_iregexp.specs.Grammar.{Regexp, IsText, regexp_form}
use Rattle.text_iregexp.specs.Limits.{size_limit, regexp_size}
use Rattle.text_regexp.specs.Building.{form_of, Same}
use Rattle.text_iregexp.specs.Reading.{Refused}

-- the regular expression, with each repetition written out
abbrev pub form_in : IRegexp → Form
form_in x = form_of x.root

-- The text is this regular expression and no other, and it is not too large. What was parsed
-- matches the same texts.
pub record IsReading (cs : List ℕ) (x : IRegexp) : Type 0 where
  pub regexp : Regexp
  pub text : IsText cs regexp
  pub only : (q : Regexp) → IsText cs q → q ≡ regexp
  pub small : regexp_size regexp ≤ size_limit
  pub same : Same (form_in x) (regexp_form regexp)

-- The first text is a regular expression that matches the whole of the second.
pub record PatternMatches (ps cs : List ℕ) : Type 0 where
  pub regexp : Regexp
  pub text : IsText ps regexp
  pub matched : Matches (regexp_form regexp) cs

-- The first text is a regular expression that matches a part of the second.
pub record PatternSearches (ps cs : List ℕ) : Type 0 where
  pub regexp : Regexp
  pub text : IsText ps regexp
  pub matched : Searches (regexp_form regexp) cs

-- the result of parsing a text
abbrev pub ReadsRegexp : List ℕ → Result IRegexp IRegexpError → Type 0
ReadsRegexp cs (Ok x) = IsReading cs x
ReadsRegexp cs (Err e) = Refused cs e
