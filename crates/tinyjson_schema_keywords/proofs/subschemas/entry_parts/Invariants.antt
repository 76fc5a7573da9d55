use Rattle.std.proofs.Common.{◌≡◌, ◌++◌, drop}
use Rattle.tinyjson.specs.View.{members_listed}
use Rattle.tinyjson_schema_keywords.specs.Subschemas.{all_parts, entry_parts}
use Rattle.tinyjson_schema_keywords.proofs.subschemas.entry_parts.Given as goal

abbrev pub invariant-loop-key : goal.invariant-loop-key
invariant-loop-key l = all_parts l.parts.items ++ entry_parts (members_listed (drop l.key-index l.schemas))
    ≡ entry_parts (members_listed l.schemas)
