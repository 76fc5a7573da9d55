use Rattle.std.proofs.Common.{◌∙◌, sym, ap}
use Rattle.tinyjson.specs.View.{text}
use Rattle.tinyjson_schema_keywords.specs.Forms.{form_at}
use Rattle.tinyjson_schema_keywords.specs.References.{form_in}
use Rattle.tinyjson_schema_keywords.proofs.Callers.{text_bytes}
use Rattle.tinyjson_schema_report.proofs.refused.form_in.Goals as goal

pub returns-in-Schema : goal.returns-in-Schema
returns-in-Schema c = c.form_at.ensures ∙ (ap form_at (text_bytes c.args.token.now c.as_str.result.now c.as_str.ensures.value)
    ∙ ap (λ f. form_in f (text c.args.token.now)) (sym c.in-Schema.is))
