use Rattle.tinyjson_schema_bundle.specs.Scopes.{states_in, AreStates}
use Rattle.tinyjson_schema_bundle.proofs.copies.copies_of.Given as goal

abbrev pub invariant-loop-next : goal.invariant-loop-next
invariant-loop-next l = AreStates l.guide (states_in l.gathered)
