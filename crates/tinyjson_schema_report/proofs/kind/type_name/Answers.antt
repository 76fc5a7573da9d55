use Rattle.std.proofs.Common.{◌≡◌, string_bytes, subst}
use Rattle.std.specs.Prelude.{IfOk}
use Rattle.tinyjson_schema_report.proofs.Telling.{string_type}
use Rattle.tinyjson_schema_report.proofs.kind.type_name.Goals as goal

pub returns-in-String : goal.returns-in-String
returns-in-String c = subst (λ x. IfOk c.with_article.result (λ s. string_bytes s ≡ x))
    (string_type c.args.name.now c.in-String.name c.as_str.result.now c.in-String.is c.as_str.ensures.value) c.with_article.ensures
