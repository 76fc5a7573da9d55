-- What the arguments ask for.
use Rattle.std.specs.Prelude.{ℕ, Bool, Option, None}
use Rattle.tinyjson_cli.specs.Arguments.{Given, is_given, last_number}

-- with `-k` to go on after a line that is rejected; the limits of nesting and of a line's length, after the last `-d` and `-m`
abbrev pub asks : Given → Bool × (Option ℕ × Option ℕ)
asks a = (is_given 107 a, (last_number 100 None a.numbers, last_number 109 None a.numbers))
