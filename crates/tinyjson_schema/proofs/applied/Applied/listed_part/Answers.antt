use Rattle.tinyjson.specs.View.{view}
use Rattle.tinyjson_schema_table.proofs.Callers.{same_known}
use Rattle.tinyjson_schema.proofs.applied.Applied.listed_part.Goals as goal

pub by-requires : goal.by-requires
by-requires c =
    let here = c.args.self.now in
    same_known _ c.known_part-known.result (view c.args.schema.now) (c.known_part-known.ensures (view here.schema.now) here.same)
    c.requires
