use Rattle.tinyjson.specs.View.{view}
use Rattle.tinyjson_schema_table.specs.Links.{AddsLinks}
use Rattle.tinyjson_schema_table.proofs.table.add_all.Given as goal

abbrev pub invariant-loop-keyword : goal.invariant-loop-keyword
invariant-loop-keyword l = AddsLinks (view l.schema) l.initial.shapes.items l.shapes.items l.initial.links.items l.links.items
