use Rattle.std.proofs.Common.{Ok, Some, subst, sym}
use Rattle.tinyjson_document.specs.Document.{tree}
use Rattle.tinyjson_schema.specs.Reading.{root_in}
use Rattle.tinyjson_schema_report.specs.Finds.{FindsIn}
use Rattle.tinyjson_schema_report.specs.Verdicts.{depth_limit, step_limit}
use Rattle.tinyjson_schema_report.proofs.verdict.check_value.Goals as goal

pub locate-requires : goal.locate-requires
locate-requires c =
    let t = tree c.args.value in
    let s = root_in c.args.judge.schema.now c.args.judge.formats in
    let found = subst (λ x. FindsIn c.limits_of.result.nested s t (Ok x)) c.in-Ok-Some.field-0-is c.in-Ok-Some.ensures in
    (depth_limit, t, c.requires, found.0.1)

pub returns-in_ok-located-in-Ok-Some : goal.returns-in_ok-located-in-Ok-Some
returns-in_ok-located-in-Ok-Some c =
    let t = tree c.args.value in
    let s = root_in c.args.judge.schema.now c.args.judge.formats in
    let found = subst (λ x. FindsIn c.limits_of.result.nested s t (Ok x)) c.in-Ok-Some.field-0-is c.in-Ok-Some.ensures in
    let limited = subst (λ n. FindsIn n s t (Ok (Some c.in-Ok-Some.finding))) c.limits_of.ensures found in (
      subst (λ f. FindsIn step_limit s t (Ok (Some f))) (sym c.in_ok-located-in-Ok-Some.ensures.finding) limited,
      c.in_ok-located-in-Ok-Some.ensures.place,
    )
