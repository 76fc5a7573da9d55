use Rattle.std.proofs.Common.{◌≡◌, ◌<◌, ◌^◌, take}
use Rattle.std.specs.Str.Parse.{digits_value}
use Rattle.tinyjson_number.proofs.integer.digits_number.Given as goal

abbrev pub invariant-loop-d : goal.invariant-loop-d
invariant-loop-d l = record { is : l.value ≡ digits_value 10 (take l.d-index l.digits); fits : l.value < 2 ^ 64 }
