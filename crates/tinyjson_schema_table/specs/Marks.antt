-- Marks of names: a set of names is a number that has the bits of their marks.
use Rattle.std.specs.Int.{bit_at}
use Rattle.std.specs.Prelude.{◌≡◌, ℕ, ◌+◌, ◌*◌, ◌%◌, nat_lt, false, List, is_some, length, get_or, cond}
use Rattle.tinyjson.specs.Tree.{Tree}
use Rattle.tinyjson_schema_keywords.specs.Applied.{schema_at}
use Rattle.tinyjson_schema_keywords.specs.Names.{name}
use Rattle.tinyjson_schema_keywords.specs.declared.keyword.Keyword.{Keyword}

-- A number below 64 for a name, from its length and two of its bytes. It tells most keywords apart.
abbrev pub mark : List ℕ → ℕ
mark bs = cond (nat_lt (length bs) 3) 0 ((2 * (length bs % 64) + 25 * get_or bs 1 0 + 38 * get_or bs 2 0) % 64)

-- The set has the marks of all keywords of the schema.
abbrev pub HasMarks : ℕ → Tree → Type 0
HasMarks marks s = (k : Keyword) → bit_at marks (mark (name k)) ≡ 0 → is_some (schema_at s k) ≡ false
