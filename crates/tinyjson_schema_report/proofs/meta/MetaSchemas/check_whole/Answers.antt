use Rattle.std.proofs.Common.{chars}
use Rattle.std.proofs.lemmas.Result.{IfOk-weaker}
use Rattle.tinyjson_schema_drafts.specs.References.{seen}
use Rattle.tinyjson_schema_report.specs.Verdicts.{TextGivesAs}
use Rattle.tinyjson_schema_report.specs.Meta.{WholeGives, judged_by}
use Rattle.tinyjson_schema_report.proofs.meta.MetaSchemas.check_whole.Goals as goal

pub returns-in-Ok : goal.returns-in-Ok
returns-in-Ok c =
    let m = c.args.self.now in
    let xs = chars c.args.text.now in
    let s = c.in-Ok.schema in
    IfOk-weaker c.verdict_by.result (TextGivesAs m.most (judged_by m s) xs) (WholeGives m (seen c.args.whole.now) xs)
    (λ v h. (s, c.in-Ok.ensures, h)) c.verdict_by.ensures
