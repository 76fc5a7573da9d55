use Rattle.std.proofs.Common.{◌∙◌, codes, bytes_eq, sym, ap}
use Rattle.tinyjson.proofs.Callers.{view_String}
use Rattle.tinyjson.specs.View.{view}
use Rattle.tinyjson_schema_keywords.proofs.Callers.{text_bytes}
use Rattle.tinyjson_schema_assertions.specs.Operands.{is_dialect}
use Rattle.tinyjson_schema_assertions.proofs.forms.is_dialect.Goals as goal

pub returns-in-String : goal.returns-in-String
returns-in-String c =
    let s = c.in-String.name in
    c.eq.ensures
    ∙ (ap (λ bs. bytes_eq bs (codes "https://json-schema.org/draft/2020-12/schema"))
    (text_bytes s c.as_str.result.now c.as_str.ensures.value)
    ∙ ap is_dialect (sym (ap view c.in-String.is ∙ view_String s)))
