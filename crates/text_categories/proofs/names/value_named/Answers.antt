use Rattle.text_categories.specs.Names.{values}
use Rattle.text_categories.proofs.names.value_named.Goals as goal

pub returns : goal.returns
unfolding values
returns c = c.value_in.ensures
