use Rattle.std.proofs.Common.{◌∙◌, ap}
use Rattle.std.specs.Str.{chars}
use Rattle.tinyjson.proofs.Callers.{view_String}
use Rattle.tinyjson.specs.Tree.{string}
use Rattle.tinyjson_schema_drafts.proofs.document.string_of.Goals as goal

pub returns : goal.returns
returns c = view_String c.in_ok-text.text ∙ ap (λ bs. string (chars bs)) c.in_ok-text.ensures.ok
