use Rattle.tinyjson_c.proofs.Selecting.{unselected_stops}
use Rattle.tinyjson_c.proofs.tinyjson_select_paths.Goals as goal

pub returns-in-Err-clause-stopped : goal.returns-in-Err-clause-stopped
returns-in-Err-clause-stopped c = λ ok room bad large memory.
    unselected_stops _ _ _ 0 _ _ c.in-Err.error c.in-Err.ensures c.put-in-Err.ensures.status c.put-in-Err.ensures.place bad large memory
