use Rattle.std.proofs.Common.{◌≡◌, true, ◌&&◌, drop}
use Rattle.tinyjson.specs.Tree.{Tree}
use Rattle.tinyjson.specs.View.{view}
use Rattle.tinyjson_schema_assertions.specs.Assertions.{meets_all}
use Rattle.tinyjson_schema_table.specs.Givens.{are_had, meets_given}
use Rattle.tinyjson_schema_table.proofs.constraints.given_of.Given as goal

abbrev pub invariant-loop-keyword : goal.invariant-loop-keyword
invariant-loop-keyword l = (are_had (view l.schema) l.given.items ≡ true)
    × ((t : Tree) → (meets_given l.given.items t && meets_all (drop l.keyword-index l.keywords) (view l.schema) t)
    ≡ meets_all l.keywords (view l.schema) t)
