use Rattle.std.proofs.Common.{◌-◌, length}
use Rattle.tinyjson_bytes.proofs.ranking.shared_len.Given as goal

abbrev pub decreases-loop-len : goal.decreases-loop-len
decreases-loop-len g l = length l.first - l.len
