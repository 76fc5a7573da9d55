use Rattle.text_uri.proofs.Marks.{split_fragment}
use Rattle.text_uri.proofs.laws.fragment_of_parts.Goals as goal

pub returns : goal.returns
returns c = split_fragment
