use Rattle.std.proofs.Common.{◌≡◌, drop}
use Rattle.tinyjson.specs.View.{members_listed}
use Rattle.tinyjson_schema_assertions.specs.Operands.{are_patterns}
use Rattle.tinyjson_schema.proofs.refused.refused_key.Given as goal

abbrev pub invariant-loop-key : goal.invariant-loop-key
invariant-loop-key l = are_patterns (members_listed (drop l.key-index l.schemas)) ≡ are_patterns (members_listed l.schemas)
