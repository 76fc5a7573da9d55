use Rattle.std.proofs.Common.{◌≡◌, ◌<◌, ◌^◌, drop}
use Rattle.tinyjson_cli.specs.Arguments.{digits_from}
use Rattle.tinyjson_cli.proofs.arguments.read_number.Given as goal

abbrev pub invariant-loop-digit : goal.invariant-loop-digit
invariant-loop-digit l = record {
  same : digits_from 0 l.digits ≡ digits_from l.value (drop l.digit-index l.digits);
  bound : l.value < 10 ^ l.digit-index;
}
