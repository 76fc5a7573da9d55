use Rattle.tinyjson_c.proofs.Stopping.{unpatched_stops}
use Rattle.tinyjson_c.proofs.tinyjson_patch.Goals as goal

pub returns-in-Err-clause-stopped : goal.returns-in-Err-clause-stopped
returns-in-Err-clause-stopped c = λ ok room failed bad.
    unpatched_stops _ _ _ c.in-Err.none _ _ c.in-Err.ensures c.put-in-Err.ensures.status c.put-in-Err.ensures.place failed bad
