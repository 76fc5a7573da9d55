use Rattle.std.proofs.Common.{◌≡◌, ◌≤◌, length, take}
use Rattle.tinyjson_number.specs.Decimal.{strip_trailing}
use Rattle.tinyjson_number.proofs.parse.kept_len.Given as goal

abbrev pub invariant-loop-n : goal.invariant-loop-n
invariant-loop-n l = record { within : l.n ≤ length l.digits; rest : strip_trailing (take l.n l.digits) ≡ strip_trailing l.digits }

abbrev pub decreases-loop-n : goal.decreases-loop-n
decreases-loop-n l = l.n
