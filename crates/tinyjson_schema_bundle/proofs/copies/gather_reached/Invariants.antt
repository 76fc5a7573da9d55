use Rattle.tinyjson_schema_bundle.specs.Scopes.{states_in, AreStates}
use Rattle.tinyjson_schema_bundle.proofs.copies.gather_reached.Given as goal

abbrev pub invariant-loop-mark : goal.invariant-loop-mark
invariant-loop-mark l = AreStates l.guide (states_in l.gathered)
