use Rattle.std.proofs.Common.{subst, sym}
use Rattle.tinyjson_document.specs.Document.{tree}
use Rattle.tinyjson_schema.specs.Reading.{root_in}
use Rattle.tinyjson_schema_report.specs.Every.{FindsEvery}
use Rattle.tinyjson_schema_report.specs.Verdicts.{depth_limit, step_limit}
use Rattle.tinyjson_schema_report.proofs.verdict.every.check_value.Goals as goal

pub locate_every-requires : goal.locate_every-requires
locate_every-requires c = (depth_limit, tree c.args.value, c.requires, c.in-Ok.ensures.found.3)

pub returns-in_ok-located-in-Ok : goal.returns-in_ok-located-in-Ok
returns-in_ok-located-in-Ok c =
    let t = tree c.args.value in
    let s = root_in c.args.judge.schema.now c.args.judge.formats in
    let found = subst (λ n. FindsEvery c.args.most n s t c.in-Ok.found.items) c.limits_of.ensures c.in-Ok.ensures.found in (
      subst (FindsEvery c.args.most step_limit s t) (sym c.in_ok-located-in-Ok.ensures.findings) found,
      c.in_ok-located-in-Ok.ensures.places,
    )
