use Rattle.std.proofs.Common.{Some, false, sym, ◌∙◌}
use Rattle.std.specs.Str.{chars}
use Rattle.tinyjson.specs.View.{view}
use Rattle.tinyjson_schema.proofs.Parts.{no_additional, by_patterned}
use Rattle.tinyjson_schema.proofs.Deep.{shallow}
use Rattle.tinyjson_schema.proofs.part.additional.Goals as goal

pub returns-in_default : goal.returns-in_default
returns-in_default c =
    let s = view c.args.here.now.schema.now in
    no_additional s (chars c.args.key.now) c.in_default.ensures

pub returns : goal.returns
returns c =
    let s = view c.args.here.now.schema.now in
    let r = view c.in-Some.part.now in
    by_patterned s (chars c.args.key.now) (Some r) false (sym c.if-patterned.false ∙ c.in_ok-patterned.ensures)
    c.in-Some.ensures

pub returns-in_err-patterned : goal.returns-in_err-patterned
returns-in_err-patterned c = shallow _ c.in_err-patterned.field-0.0 c.from_residual.result c.from_residual.ensures.1 c.in_err-patterned.ensures
