use Rattle.std.proofs.Common.{◌∙◌, refl}
use Rattle.tinyjson_schema_drafts.specs.Dialects.{unknown_in, unknown_uri}
use Rattle.tinyjson_schema_drafts.proofs.Wording.{said}
use Rattle.tinyjson_schema_drafts.proofs.draft.unknown_in.Goals as goal

pub returns-in-String : goal.returns-in-String
returns-in-String c = c.unknown_uri.ensures
    ∙ said c.args.uri.now c.in-String.uri c.as_str.result.now c.in-String.is c.as_str.ensures.value unknown_uri unknown_in refl
