use Rattle.tinyjson.proofs.Values.Equality.{same_strings}
use Rattle.tinyjson.proofs.value.equality.compare.Goals as goal

pub returns-in-String-String-clause-same : goal.returns-in-String-String-clause-same
returns-in-String-String-clause-same c = same_strings _ _ _ c.in-String-String.a c.in-String-String.b c.in-String-String.is-0
    c.in-String-String.is-1 c.eq-in-String-String.ensures
