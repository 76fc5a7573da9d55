use Rattle.text_uri.proofs.Fronts.{stripped}
use Rattle.text_uri.proofs.cutting.after.Goals as goal

pub returns : goal.returns
returns c = stripped c.args.front.now c.args.text.now c.strip_prefix.result c.strip_prefix.ensures.cases
