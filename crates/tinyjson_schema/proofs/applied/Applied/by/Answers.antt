use Rattle.std.proofs.Common.{◌≡◌, true, subst, ap, ◌∙◌}
use Rattle.tinyjson.specs.View.{view}
use Rattle.tinyjson_schema_table.specs.Places.{is_of}
use Rattle.tinyjson_schema_table.proofs.Callers.{known_same}
use Rattle.tinyjson_schema.proofs.applied.Applied.by.Goals as goal

pub returns-in-Some : goal.returns-in-Some
returns-in-Some c =
    let s = view c.args.schema.now in
    ap (λ x. view x.now) c.known.ensures
    ∙ known_same c.in-Some.known s (subst (λ o. is_of o s ≡ true) c.in-Some.is c.requires)
