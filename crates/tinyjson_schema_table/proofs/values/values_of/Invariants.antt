use Rattle.std.proofs.Common.{◌≡◌, ◌++◌, drop, map, option_map}
use Rattle.tinyjson.specs.View.{view}
use Rattle.tinyjson_schema_keywords.specs.Applied.{schema_at}
use Rattle.tinyjson_schema_table.proofs.values.values_of.Given as goal

abbrev pub invariant-loop-keyword : goal.invariant-loop-keyword
invariant-loop-keyword l = map (option_map (λ x. view x.now)) l.values.items ++ map (schema_at (view l.schema))
    (drop l.keyword-index l.keywords)
    ≡ map (schema_at (view l.schema)) l.keywords
