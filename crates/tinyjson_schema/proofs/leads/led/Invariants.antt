use Rattle.std.proofs.Common.{◌≡◌, drop}
use Rattle.tinyjson_schema.specs.Leads.{led}
use Rattle.tinyjson_schema.proofs.leads.led.Given as goal

abbrev pub invariant-loop-lead : goal.invariant-loop-lead
invariant-loop-lead l = led (drop l.lead-index l.leads) l.reference ≡ led l.leads l.reference
