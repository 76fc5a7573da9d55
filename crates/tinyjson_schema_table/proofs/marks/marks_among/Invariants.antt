use Rattle.std.proofs.Common.{◌≡◌, ℕ, List, string_bytes}
use Rattle.std.specs.HashMap.{get_by_text}
use Rattle.std.specs.Int.{bit_at}
use Rattle.std.specs.Map.{lookup}
use Rattle.std.specs.Str.{bytes_eq}
use Rattle.tinyjson_schema_table.specs.Marks.{mark}
use Rattle.tinyjson_schema_table.proofs.marks.marks_among.Given as goal

abbrev pub invariant-loop-key : goal.invariant-loop-key
invariant-loop-key l = (bs : List ℕ) → bit_at l.marks (mark bs) ≡ 0
    → lookup (λ k. bytes_eq bs (string_bytes k)) l.key-iterator ≡ get_by_text l.members bs
