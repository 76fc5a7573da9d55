use Rattle.std.proofs.Common.{◌∙◌}
use Rattle.tinyjson_patch.proofs.MergingDocuments.{same_order}
use Rattle.tinyjson_patch.proofs.merge_document.order.Goals as goal

pub returns : goal.returns
returns c = c.cmp.ensures ∙ same_order c.args.key.now c.args.other.now c.utf8.key c.utf8.other
