use Rattle.std.proofs.Common.{subst, ap, ◌∙◌}
use Rattle.std.specs.Prelude.{IfOk, IfErr}
use Rattle.tinyjson.specs.View.{view}
use Rattle.tinyjson_schema.specs.Every.{AreNoneIfValid}
use Rattle.tinyjson_schema.specs.Leads.{are_led}
use Rattle.tinyjson_schema_table.proofs.Callers.{known_as}
use Rattle.tinyjson_schema.specs.Reading.{root_in}
use Rattle.tinyjson_schema.specs.Valid.{IsBeyond}
use Rattle.tinyjson_schema.proofs.schema.Schema.invalid_places_by.Goals as goal

pub returns-clause-none : goal.returns-clause-none
returns-clause-none g c =
    subst (λ t. IfOk c.find_violations.result (λ found.
    AreNoneIfValid c.args.most (root_in c.args.self.now c.args.checks.formats) t found.items))
    c.as_view.ensures c.find_violations.ensures.none

pub invariant_of-ground : goal.invariant_of-ground
invariant_of-ground g c = record {
  led = ap (are_led (view c.args.self.now.whole.root.now)) c.as_slice.ensures.value ∙ c.args.self.now.led;
  same = known_as (view c.args.self.now.table.schema.now) (view c.args.self.now.whole.root.now) c.first.result c.first.ensures
      c.args.self.now.same;
}

pub returns-clause-deep : goal.returns-clause-deep
returns-clause-deep g c =
    subst (λ t. IfErr c.find_violations.result (IsBeyond c.args.checks.limits.nested (root_in c.args.self.now c.args.checks.formats) t))
    c.as_view.ensures c.find_violations.ensures.deep
