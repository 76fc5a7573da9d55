use Rattle.std.proofs.Common.{◌∙◌, ap}
use Rattle.tinyjson.specs.View.{view}
use Rattle.tinyjson_schema.specs.Leads.{are_led}
use Rattle.tinyjson_schema_table.proofs.Callers.{known_as}
use Rattle.tinyjson_schema.proofs.schema.Schema.invalid_place_by.Goals as goal

pub invariant_of-ground : goal.invariant_of-ground
invariant_of-ground t c = record {
  led = ap (are_led (view c.args.self.now.whole.root.now)) c.as_slice.ensures.value ∙ c.args.self.now.led;
  same = known_as (view c.args.self.now.table.schema.now) (view c.args.self.now.whole.root.now) c.first.result c.first.ensures
      c.args.self.now.same;
}
