use Rattle.std.proofs.Common.{◌≡◌, drop}
use Rattle.tinyjson_schema_keywords.specs.Anchors.{are_name_parts}
use Rattle.tinyjson_schema_keywords.proofs.anchor.are_name_parts.Given as goal

abbrev pub invariant-loop-byte : goal.invariant-loop-byte
invariant-loop-byte l = are_name_parts (drop l.byte-index l.bytes) ≡ are_name_parts l.bytes
