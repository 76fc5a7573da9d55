use Rattle.std.proofs.lemmas.List.{take-replicate}
use Rattle.tinyjson_number.proofs.text.zeros.Goals as goal

pub returns : goal.returns
returns c = take-replicate c.args.count 323 48 c.requires
