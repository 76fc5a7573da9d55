-- What the arguments ask for.
use Rattle.std.specs.Prelude.{ℕ, List, [], ◌∷◌, Option, None, Some, cond}
use Rattle.std.specs.List.{repeat}
use Rattle.tinyjson_cli.specs.Arguments.{Given, is_given, last_number}

-- as many spaces as the number, or two
abbrev pub spaces : Option ℕ → List ℕ
spaces None = 32 ∷ 32 ∷ []
spaces (Some n) = repeat n (32 ∷ [])

-- the indent: a tab after `-t`, else the number of spaces after the last `-i`
abbrev pub indent_asked : Given → List ℕ
indent_asked a = cond (is_given 116 a) (9 ∷ []) (spaces (last_number 105 None a.numbers))
