use Rattle.json_lines.proofs.Cutting.{output_of_shares}
use Rattle.json_lines.proofs.shares.output_of_shares.Goals as goal

pub returns : goal.returns
returns c = output_of_shares
