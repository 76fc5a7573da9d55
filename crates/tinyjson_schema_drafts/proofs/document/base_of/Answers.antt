use Rattle.std.proofs.Common.{◌∙◌, Some, sym, ap}
use Rattle.tinyjson.proofs.Callers.{view_String}
use Rattle.tinyjson.specs.View.{view}
use Rattle.tinyjson_schema_keywords.proofs.Callers.{text_bytes}
use Rattle.tinyjson_schema_drafts.specs.Documents.{base_by}
use Rattle.tinyjson_schema_drafts.proofs.document.base_of.Goals as goal

pub returns-in-String : goal.returns-in-String
returns-in-String c =
    text_bytes c.in-String.text c.as_str.result.now c.as_str.ensures.value
    ∙ (ap (λ t. base_by (Some t)) (sym (ap view c.in-String.is ∙ view_String c.in-String.text)) ∙ ap base_by c.in-Some.ensures)
