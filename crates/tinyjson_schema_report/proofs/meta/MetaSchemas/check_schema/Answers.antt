use Rattle.std.proofs.Common.{◌∙◌, chars, subst}
use Rattle.std.specs.Prelude.{IfOk}
use Rattle.tinyjson_schema_report.specs.Meta.{GivesBy}
use Rattle.tinyjson_schema_report.proofs.meta.MetaSchemas.check_schema.Goals as goal

pub returns : goal.returns
returns c =
    subst (λ u. IfOk c.check_by.result (GivesBy c.args.self.now u (chars c.args.text.now)))
    (c.as_str.ensures.value ∙ (c.in_ok-uri.ensures.ok ∙ c.meta_schema_of.ensures)) c.check_by.ensures
