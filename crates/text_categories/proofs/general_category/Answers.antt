use Rattle.std.proofs.Common.{refl}
use Rattle.text_categories.specs.Runs.{ends_rise}
use Rattle.text_categories.specs.Categories.{general_category}
use Rattle.text_categories.proofs.general_category.Goals as goal

pub search-requires : goal.search-requires
unfolding ends_rise
search-requires c = refl

pub returns : goal.returns
unfolding general_category
returns c = c.search.ensures
