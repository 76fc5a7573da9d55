use Rattle.std.proofs.Common.{ap, chars, subst}
use Rattle.std.proofs.lemmas.Result.{IfOk-weaker}
use Rattle.tinyjson_schema_drafts.specs.References.{HasMetaSchemas, seen}
use Rattle.tinyjson_schema_report.specs.Meta.{GivesBy, WholeGives}
use Rattle.tinyjson_schema_report.proofs.meta.MetaSchemas.check_by.Goals as goal

pub returns : goal.returns
returns c =
    let m = c.args.self.now in
    let xs = chars c.args.text.now in
    let r = seen c.in_ok-whole.whole in
    IfOk-weaker c.check_whole-every.result (WholeGives m r xs) (GivesBy m c.args.uri.now xs)
    (λ v h. (r, subst (λ d. HasMetaSchemas d r) (ap (λ t. (t, m.documents.is_older)) c.in_ok-tree.ensures) c.in_ok-whole.ensures, h))
    c.check_whole-every.ensures
