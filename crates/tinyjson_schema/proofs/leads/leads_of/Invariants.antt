use Rattle.std.proofs.Common.{◌≡◌, true}
use Rattle.tinyjson.specs.View.{view}
use Rattle.tinyjson_schema.specs.Leads.{are_led}
use Rattle.tinyjson_schema.proofs.leads.leads_of.Given as goal

abbrev pub invariant-loop-member : goal.invariant-loop-member
invariant-loop-member l = are_led (view l.whole.root.now) l.leads.items ≡ true
