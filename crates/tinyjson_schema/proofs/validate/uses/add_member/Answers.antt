use Rattle.tinyjson_schema.specs.declared.walk.CheckError.TheVariants.{OutOfMemory}
use Rattle.tinyjson_schema.proofs.Deep.{raised}
use Rattle.std.proofs.Common.{sym, ap, option_map, ◌∙◌}
use Rattle.std.specs.Str.{chars}
use Rattle.tinyjson.specs.View.{view}
use Rattle.tinyjson_schema_table.proofs.Callers.{same_known}
use Rattle.tinyjson_schema.proofs.Alternatives.{additional_known}
use Rattle.tinyjson_schema.proofs.validate.uses.add_member.Goals as goal

pub invariant_of-one : goal.invariant_of-one
invariant_of-one c =
    let here = c.args.here.now in
    record {
      same = same_known _ c.known_part-known.result (view c.in-Some.part.now)
          (c.known_part-known.ensures (view here.schema.now) here.same) (sym c.in-Some.ensures);
    }

pub invariant_of-one-2 : goal.invariant_of-one-2
invariant_of-one-2 c =
    let here = c.args.here.now in
    let s = view here.schema.now in
    record {
      same = additional_known s (chars c.args.member.key.now) (view c.in-Some-2.part.now) c.known_part-known-2.result
          (sym c.in_ok-part.ensures ∙ ap (option_map (λ x. view x.now)) c.in-Some-2.is) (c.known_part-known-2.ensures s here.same);
    }

pub returns-in_err-add_if : goal.returns-in_err-add_if
returns-in_err-add_if c =
    raised _ _ OutOfMemory c.from_residual.result c.from_residual.ensures.1 tt

pub returns-in_err-part : goal.returns-in_err-part
returns-in_err-part c =
    raised _ _ c.in_err-part.field-0.0 c.from_residual-in_err-part.result c.from_residual-in_err-part.ensures.1 c.in_err-part.ensures

pub returns-in_err-add_if-2 : goal.returns-in_err-add_if-2
returns-in_err-add_if-2 c =
    raised _ _ OutOfMemory c.from_residual-in_err-add_if-2.result c.from_residual-in_err-add_if-2.ensures.1 tt
