use Rattle.std.proofs.Common.{◌∙◌}
use Rattle.text_ecma_regexp.proofs.Digits.{at_most_is}
use Rattle.text_ecma_regexp.proofs.quantifier.is_at_most.Goals as goal

pub returns : goal.returns
returns c = c.at_most.ensures ∙ at_most_is c.args.least.now c.args.most.now c.requires.least c.requires.most
