use Rattle.std.proofs.Common.{Ok}
use Rattle.tinyjson_laws.proofs.CallLaws.{equal_strings}
use Rattle.tinyjson_laws.proofs.round_trips.same_written.Goals as goal

pub returns : goal.returns
returns c =
    rw c.eq.ensures (equal_strings c.args.a.now c.args.b.now (Ok c.in_ok-first.first) (Ok c.in_ok-second.second) c.in_ok-first.ensures
    c.in_ok-second.ensures)
