use Rattle.std.proofs.Common.{refl}
use Rattle.tinyjson_schema_drafts.proofs.meta.draft_2019_09.documents.Goals as goal

pub returns : goal.returns
returns c = refl
