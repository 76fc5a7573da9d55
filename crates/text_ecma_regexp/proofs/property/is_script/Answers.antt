use Rattle.text_ecma_regexp.specs.PropertyNames.{scripts}
use Rattle.text_ecma_regexp.proofs.property.is_script.Goals as goal

pub returns : goal.returns
unfolding scripts
returns c = c.is_word.ensures
