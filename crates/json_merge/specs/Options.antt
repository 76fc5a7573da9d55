-- The program's arguments.
use Rattle.std.specs.Prelude.{ℕ, List, Option, None, Some, cond, drop, length, nat_lt, take, unwrap_or}
use Rattle.tinyjson_cli.specs.Arguments.{Given, last_number}

-- the first operands, as many as this, and the others
abbrev pub split_operands : ℕ → List (List ℕ) → Option (List (List ℕ) × List (List ℕ))
split_operands n ws = cond (nat_lt (length ws) n) None (Some (take n ws, drop n ws))

-- the patches, one or as many as the last `-p` says, and the files
abbrev pub patches_asked : Given → Option (List (List ℕ) × List (List ℕ))
patches_asked a = split_operands (unwrap_or (last_number 112 None a.numbers) 1) a.operands
