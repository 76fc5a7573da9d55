use Rattle.text_ecma_regexp.specs.PropertyNames.{binary_properties}
use Rattle.text_ecma_regexp.proofs.property.is_binary.Goals as goal

pub returns : goal.returns
unfolding binary_properties
returns c = c.is_word.ensures
