use Rattle.std.proofs.Common.{◌∙◌}
use Rattle.tinyjson_path.proofs.Comparisons.{strings_less}
use Rattle.tinyjson_path.proofs.operand.is_text_less.Goals as goal

pub returns : goal.returns
returns c = c.lt.ensures ∙ strings_less c.args.left.now c.args.right.now c.utf8.left c.utf8.right
