use Rattle.std.proofs.Common.{◌≡◌, ◌<◌, ◌*◌, ◌^◌}
use Rattle.tinyjson_number.proofs.integer.times_ten.Given as goal

abbrev pub invariant-loop-i : goal.invariant-loop-i
invariant-loop-i l = record { is : l.value ≡ l.number * 10 ^ l._i; fits : l.value < 2 ^ 64 }
