-- What is found of a text of which nothing is built.
use Rattle.std.proofs.Common.{ℕ, List, [], Option, Result, Ok, Err}
use Rattle.tinyjson_grammar.specs.Tree.{Tree}
use Rattle.tinyjson_grammar.specs.Machine.{Frame, finished, Next, next}
use Rattle.tinyjson_grammar.specs.declared.error.JsonParseErrorKind.{JsonParseErrorKind}
use Rattle.tinyjson_tokens.specs.Source.{Sight}
use Rattle.tinyjson_tokens.specs.Steps.{Leads, Reads}
use Rattle.tinyjson_tokens.proofs.Callers.{Leads_trans, Refuses_after}
use Rattle.tinyjson.specs.private.Building.{Builds}
use Rattle.tinyjson.specs.private.Steps.{Finds}
use Rattle.tinyjson.specs.declared.parser.nest.Nest.{Nest}

module _ {S : Type 0} (sight : Sight S) (limit : Option ℕ) (p q z : S) {n : Next} where
  -- the end, after a value
  pub finds_end : {T : Type 0} (t : Tree) (r : Result T JsonParseErrorKind) → Leads sight limit p n q (next [] (finished t))
      → Reads sight limit q (next [] (finished t)) r (λ _. next [] (finished t)) z → Finds sight limit p n r z
  finds_end t (Ok v) l w = (t, Leads_trans sight limit p q z l w)
  finds_end t (Err k) l w = Refuses_after sight limit p q z k l w

  -- the rest, whatever was built of it
  pub finds_built : {B X : Type 0} {m : Next} (holds : B → List Frame → Type 0) (is : B → Tree → Type 0)
      (r : Result (Unit {0}) JsonParseErrorKind) (b : Nest B X) → Leads sight limit p n q m → Builds holds is sight limit q m r b z
      → Finds sight limit p n r z
  finds_built holds is (Ok v) b l w = (w.0, Leads_trans sight limit p q z l w.1)
  finds_built holds is (Err k) b l w = Refuses_after sight limit p q z k l w
