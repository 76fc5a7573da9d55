use Rattle.std.proofs.Common.{◌≡◌, ◌<◌, ◌≤◌, ◌^◌, ◌++◌, length, drop}
use Rattle.std.specs.Fmt.{decimal}
use Rattle.tinyjson_number.proofs.integer.write_digits.Given as goal

abbrev pub invariant-loop-rest : goal.invariant-loop-rest
invariant-loop-rest l = record {
  some : 0 < l.start;
  within : l.start ≤ 20;
  room : l.rest < 10 ^ l.start;
  long : length l.buffer
      ≡ 20;
  digits : decimal l.rest ++ drop l.start l.buffer ≡ decimal l.value;
}

abbrev pub decreases-loop-rest : goal.decreases-loop-rest
decreases-loop-rest l = l.rest
