use Rattle.text_ecma_regexp.specs.PropertyNames.{general_categories}
use Rattle.text_ecma_regexp.proofs.property.is_general_category.Goals as goal

pub returns : goal.returns
unfolding general_categories
returns c = c.is_word.ensures
