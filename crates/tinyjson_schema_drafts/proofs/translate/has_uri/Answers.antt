use Rattle.std.proofs.Common.{◌∙◌, refl}
use Rattle.tinyjson_schema_drafts.specs.Translated.{has_uri, is_uri}
use Rattle.tinyjson_schema_drafts.proofs.Wording.{said}
use Rattle.tinyjson_schema_drafts.proofs.translate.has_uri.Goals as goal

pub returns-in-String : goal.returns-in-String
returns-in-String c = c.is_uri.ensures
    ∙ said c.args.id.now c.in-String.id c.as_str.result.now c.in-String.is c.as_str.ensures.value is_uri has_uri refl
