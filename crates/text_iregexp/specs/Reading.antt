-- The result of parsing a text; `Reads` is for private contracts.
use Rattle.std.specs.Prelude.{◌≡◌, ℕ, ◌≤◌, ◌<◌, ◌+◌, List, ◌∷◌, ◌++◌, length, ◌⊎◌, Result, Ok, Err}
use Rattle.text_iregexp.specs.declared.error.IRegexpError.{IRegexpError}
use Rattle.text_iregexp.specs.declared.error.IRegexpErrorKind.{IRegexpErrorKind}
use Rattle.text_iregexp.specs.declared.error.IRegexpErrorKind.TheVariants as kind
use Rattle.text_regexp.specs.declared.expression.Expression.{Expression}
use Rattle.text_regexp.specs.Building.{Means}
use Rattle.text_iregexp.specs.Characters.{left_parenthesis}
use Rattle.text_iregexp.specs.Grammar.{Token, Spells, Spelled, Regexp, IsText, regexp_form}
use Rattle.text_iregexp.specs.Limits.{depth_limit, begun_groups, ended_groups, size_limit, regexp_size, LargeCount}

-- A regular expression begins with these characters.
pub record Begins (cs : List ℕ) : Type 0 where
  pub more : List ℕ
  pub regexp : Regexp
  pub text : IsText (cs ++ more) regexp

-- The rest does not begin with a token with which a regular expression could continue.
abbrev pub Stops : List ℕ → List ℕ → Type 0
Stops front rest = (cs more : List ℕ) (t : Token) → rest ≡ cs ++ more → Spells cs t → Begins (front ++ cs) → ⊥

-- The rest begins with a group, and as many groups are open before it as may be nested.
pub record OpensTooMany (tokens : List Token) (rest : List ℕ) : Type 0 where
  pub after : List ℕ
  pub begins : rest ≡ left_parenthesis ∷ after
  pub full : ended_groups tokens + depth_limit ≤ begun_groups tokens

-- The rest begins with a token with which a regular expression continues, and each such regular
-- expression is too large.
pub record GrowsTooLarge (front rest : List ℕ) : Type 0 where
  pub token : Token
  pub cs : List ℕ
  pub after : List ℕ
  pub split : rest ≡ cs ++ after
  pub spelled : Spells cs token
  pub begun : Begins (front ++ cs)
  pub large : (more : List ℕ) (r : Regexp) → IsText ((front ++ cs) ++ more) r → size_limit < regexp_size r

-- what a kind of error means for a text that consists of these tokens, whose characters are the
-- front, and the rest
abbrev pub Says : List ℕ → List ℕ → List Token → List ℕ → IRegexpErrorKind → Type 0
Says cs front tokens rest kind.Invalid = ((r : Regexp) → IsText cs r → ⊥) × Stops front rest
Says cs front tokens rest kind.TooDeep = OpensTooMany tokens rest
Says cs front tokens rest kind.TooLarge = LargeCount rest ⊎ GrowsTooLarge front rest
Says cs front tokens rest kind.OutOfMemory = Unit {0}

-- The text before the place consists of tokens with which a regular expression begins, and the kind
-- of the error is right for the text after it.
pub record Refused (cs : List ℕ) (e : IRegexpError) : Type 0 where
  pub front : List ℕ
  pub tokens : List Token
  pub rest : List ℕ
  pub split : cs ≡ front ++ rest
  pub placed : e.place ≡ length front
  pub spelled : Spelled front tokens
  pub begun : Begins front
  pub says : Says cs front tokens rest e.kind

-- the result of parsing a text into a tree
abbrev pub Reads : List ℕ → Result Expression IRegexpError → Type 0
Reads cs (Ok n) = (r : Regexp) × IsText cs r × Means n (regexp_form r) × (regexp_size r ≤ size_limit)
Reads cs (Err e) = Refused cs e
