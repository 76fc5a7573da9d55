use Rattle.std.proofs.Common.{◌≡◌, ◌++◌, drop}
use Rattle.tinyjson.specs.View.{members_listed}
use Rattle.tinyjson_schema_keywords.specs.Subschemas.{all_parts, keyword_parts}
use Rattle.tinyjson_schema_keywords.proofs.subschemas.keyword_parts.Given as goal

abbrev pub invariant-loop-name : goal.invariant-loop-name
invariant-loop-name l = all_parts l.parts.items ++ keyword_parts (members_listed (drop l.name-index l.members))
    ≡ keyword_parts (members_listed l.members)
