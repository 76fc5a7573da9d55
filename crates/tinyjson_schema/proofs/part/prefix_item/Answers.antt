use Rattle.std.proofs.Common.{arith, option_map, ap, ◌∙◌}
use Rattle.std.proofs.lemmas.Grind.{common_steps}
use Rattle.std.proofs.lemmas.Option.{slice_get_cases}
use Rattle.tinyjson.specs.View.{view}
use Rattle.tinyjson_schema.proofs.Operands.{prefix_found, prefix_other, prefix_missing}
use Rattle.tinyjson_schema.proofs.part.prefix_item.Goals as goal

pub returns-in-Array : goal.returns-in-Array
returns-in-Array c = prefix_found (view c.args.here.now.schema.now) c.in_ok-schemas.field-0.now c.in-Array.schemas c.args.index c.get.result
    c.in-Array.is c.in_ok-schemas.ensures (grind (arith, common_steps, slice_get_cases c.in-Array.schemas.items c.args.index))

pub returns-in_default : goal.returns-in_default
returns-in_default c = prefix_other (view c.args.here.now.schema.now) c.in_ok-schemas.field-0.now c.args.index c.in_default.not-Array
    c.in_ok-schemas.ensures

pub returns-in_err-schemas : goal.returns-in_err-schemas
returns-in_err-schemas c = ap (option_map (λ x. view x.now)) c.from_residual.ensures
    ∙ prefix_missing (view c.args.here.now.schema.now) c.args.index c.in_err-schemas.ensures
