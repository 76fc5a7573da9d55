use Rattle.std.proofs.Common.{◌≡◌, ◌∙◌, ap, string_bytes, subst}
use Rattle.std.specs.Prelude.{IfOk}
use Rattle.tinyjson.specs.Kind.{kind_name}
use Rattle.tinyjson_schema_report.specs.Kinds.{with_article}
use Rattle.tinyjson_schema_report.proofs.kind.kind_words.Goals as goal

pub returns : goal.returns
returns c = subst (λ x. IfOk c.with_article.result (λ s. string_bytes s ≡ with_article x))
    (c.as_str.ensures.value ∙ (c.in_ok-kind.ensures.ok ∙ ap kind_name c.kind.ensures)) c.with_article.ensures
