use Rattle.std.proofs.Common.{◌∙◌}
use Rattle.tinyjson_document.proofs.Comparing.{same_bytes}
use Rattle.tinyjson_document.proofs.equality.is_same_text.Goals as goal

pub returns : goal.returns
returns c = c.eq.ensures ∙ same_bytes c.args.text.now c.args.other.now c.utf8.text c.utf8.other
