use Rattle.std.proofs.Common.{ap, ◌∙◌, length}
use Rattle.tinyjson_c.proofs.Stopping.{stops}
use Rattle.tinyjson_c.proofs.tinyjson_normal_lines.Goals as goal
use Rattle.tinyjson_c.specs.Stop.{stop_place}

pub returns-in-Err-clause-stopped : goal.returns-in-Err-clause-stopped
returns-in-Err-clause-stopped c = λ ok room.
    let h = c.in-Err.ensures in
    let s = c.in-Err.line.stop in
    let p = c.put-in-Err.ensures in
    record {
      trees = h.trees;
      rest = h.rest;
      before = h.before;
      more = h.more;
      stops = stops _ _ s (length h.trees) _ _ h.stopped p.status (p.place ∙ ap (λ n. stop_place n s) h.counted);
    }
