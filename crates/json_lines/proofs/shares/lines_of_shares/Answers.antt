use Rattle.json_lines.proofs.Cutting.{lines_of_shares}
use Rattle.json_lines.proofs.shares.lines_of_shares.Goals as goal

pub returns : goal.returns
returns c = lines_of_shares
