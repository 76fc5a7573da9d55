use Rattle.std.proofs.Common.{◌≡◌, take, min}
use Rattle.std.specs.Str.Parse.{digits_value}
use Rattle.tinyjson_number.specs.private.Power.{near_cap}
use Rattle.tinyjson_number.proofs.parse.near_value.Given as goal

abbrev pub invariant-loop-b : goal.invariant-loop-b
invariant-loop-b l = l.value ≡ min (digits_value 10 (take l.b-index l.digits)) near_cap
