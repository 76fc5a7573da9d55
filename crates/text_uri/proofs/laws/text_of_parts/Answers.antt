use Rattle.text_uri.proofs.Whole.{split_whole}
use Rattle.text_uri.proofs.laws.text_of_parts.Goals as goal

pub returns : goal.returns
returns c = split_whole
