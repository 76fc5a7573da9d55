use Rattle.std.proofs.Common.{◌≡◌, true, sym, ap, subst, ◌∙◌}
use Rattle.tinyjson.specs.View.{view}
use Rattle.tinyjson_schema_keywords.specs.Applied.{schema_at}
use Rattle.tinyjson_schema_table.specs.Places.{is_of}
use Rattle.tinyjson_schema_table.proofs.Callers.{absent, known_same}
use Rattle.tinyjson_schema.proofs.applied.Applied.schema_at.Goals as goal

pub returns-then-not-may_have : goal.returns-then-not-may_have
returns-then-not-may_have c = sym (absent c.args.self.now.marks (view c.args.self.now.schema.now) c.args.keyword c.args.self.now.marked
    (sym c.may_have.ensures ∙ c.if-not-may_have.true))

pub returns-in-Some : goal.returns-in-Some
returns-in-Some c =
    let s = view c.args.self.now.schema.now in
    c.value_of.ensures ∙ ap (λ t. schema_at t c.args.keyword)
    (known_same c.in-Some.known s (subst (λ o. is_of o s ≡ true) c.in-Some.is c.args.self.now.same))
