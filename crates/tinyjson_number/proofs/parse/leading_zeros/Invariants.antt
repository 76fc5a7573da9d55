use Rattle.std.proofs.Common.{◌≡◌, drop}
use Rattle.tinyjson_number.specs.Decimal.{strip_leading}
use Rattle.tinyjson_number.proofs.parse.leading_zeros.Given as goal

abbrev pub invariant-loop-i : goal.invariant-loop-i
invariant-loop-i l = strip_leading (drop l.i l.digits) ≡ strip_leading l.digits
