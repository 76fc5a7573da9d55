use Rattle.std.proofs.Common.{◌≡◌, ◌∙◌, ap, subst, string_bytes}
use Rattle.std.specs.Prelude.{IfOk}
use Rattle.std.specs.Str.{chars}
use Rattle.tinyjson_schema_report.proofs.Viewing.{view_chars}
use Rattle.tinyjson_schema_report.specs.Brief.{cut}
use Rattle.tinyjson_schema_report.proofs.brief.brief_of.Goals as goal

pub returns : goal.returns
returns c = subst (λ cs. IfOk c.cut.result (λ s. string_bytes s ≡ cut 60 cs))
    (ap chars (c.as_str.ensures.value ∙ c.in_ok-text.ensures) ∙ view_chars c.args.value.now) c.cut.ensures
