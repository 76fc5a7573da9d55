use Rattle.std.proofs.Common.{◌≡◌, string_bytes}
use Rattle.std.specs.HashMap.{get_by_text}
use Rattle.std.specs.Map.{lookup}
use Rattle.std.specs.Str.{bytes_eq}
use Rattle.tinyjson_schema_keywords.proofs.subschemas.found.Given as goal

abbrev pub invariant-loop-key : goal.invariant-loop-key
invariant-loop-key l = lookup (λ k. bytes_eq l.name (string_bytes k)) l.key-iterator ≡ get_by_text l.members l.name
