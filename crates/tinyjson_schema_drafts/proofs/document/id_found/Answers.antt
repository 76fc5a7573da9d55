use Rattle.std.proofs.Common.{◌∙◌, Some, sym, ap}
use Rattle.tinyjson.proofs.Callers.{view_String}
use Rattle.tinyjson.specs.View.{view}
use Rattle.text_uri.specs.Resolving.{resolved}
use Rattle.tinyjson_schema_keywords.proofs.Callers.{text_bytes}
use Rattle.tinyjson_schema_drafts.specs.Documents.{id_by, string_of}
use Rattle.tinyjson_schema_drafts.proofs.document.id_found.Goals as goal

pub returns-in_ok-resolved-in-String : goal.returns-in_ok-resolved-in-String
returns-in_ok-resolved-in-String c =
    let u = c.args.uri.now in
    view_String c.in_ok-resolved-in-String.resolved
    ∙ (ap string_of (c.in_ok-resolved-in-String.ensures
    ∙ ap (resolved u) (text_bytes c.in-String.own c.as_str.result.now c.as_str.ensures.value))
    ∙ (ap (λ t. id_by u (Some t)) (sym (ap view c.in-String.is ∙ view_String c.in-String.own)) ∙ ap (id_by u) c.in-Some.ensures))
