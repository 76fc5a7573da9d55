use Rattle.std.proofs.Common.{◌≡◌, drop}
use Rattle.tinyjson_schema.specs.Every.{spot_of}
use Rattle.tinyjson_schema.specs.Steps.{placed}
use Rattle.tinyjson_schema.proofs.validate.every.enter_all.Given as goal

abbrev pub invariant-loop-step : goal.invariant-loop-step
invariant-loop-step l = placed (drop l.step-index l.path) (spot_of l.violation) ≡ placed l.path (spot_of l.initial.violation)
