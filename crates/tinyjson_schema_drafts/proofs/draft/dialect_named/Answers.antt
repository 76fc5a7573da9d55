use Rattle.std.proofs.Common.{◌∙◌, refl}
use Rattle.tinyjson_schema_drafts.specs.Dialects.{dialect_named, draft_named}
use Rattle.tinyjson_schema_drafts.proofs.Wording.{said}
use Rattle.tinyjson_schema_drafts.proofs.draft.dialect_named.Goals as goal

pub returns-in-String : goal.returns-in-String
returns-in-String c = c.draft_named.ensures
    ∙ said c.args.uri.now c.in-String.uri c.as_str.result.now c.in-String.is c.as_str.ensures.value draft_named dialect_named refl
