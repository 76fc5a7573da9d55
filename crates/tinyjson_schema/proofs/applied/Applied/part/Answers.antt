use Rattle.std.proofs.Common.{◌∙◌, Some, ap, sym}
use Rattle.tinyjson.specs.View.{view}
use Rattle.tinyjson_schema_table.proofs.Callers.{same_known}
use Rattle.tinyjson_schema.proofs.applied.Applied.part.Goals as goal

pub by-requires : goal.by-requires
by-requires c =
    let here = c.args.self.now in
    same_known _ c.known_part-known.result (view c.in-Some.schema.now) (c.known_part-known.ensures (view here.schema.now) here.same)
    (sym c.in-Some.ensures)

pub returns : goal.returns
returns c = ap (λ t. Some t) c.by.ensures ∙ c.in-Some.ensures
