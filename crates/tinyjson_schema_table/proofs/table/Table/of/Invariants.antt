use Rattle.std.proofs.Common.{◌≡◌, true}
use Rattle.tinyjson.specs.View.{view}
use Rattle.tinyjson_schema_table.specs.Givens.{is_at}
use Rattle.tinyjson_schema_table.specs.Links.{tree_in, AreLinked}
use Rattle.tinyjson_schema_table.proofs.table.Table.of.Given as goal

abbrev pub invariant-loop : goal.invariant-loop
invariant-loop l = (is_at (tree_in l.shapes.items 0) (view l.schema) ≡ true) × AreLinked l.shapes.items l.links.items
