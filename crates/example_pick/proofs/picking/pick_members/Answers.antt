use Rattle.std.proofs.Common.{None}
use Rattle.std.specs.Str.{chars}
use Rattle.tinyjson.proofs.Callers.{told_error}
use Rattle.tinyjson.specs.Access.{JsonMap}
use Rattle.tinyjson.specs.Tree.{Tree}
use Rattle.tinyjson.specs.View.{members_view}
use Rattle.example_pick.specs.Picking.{members_of, Picks}
use Rattle.example_pick.proofs.picking.pick_members.Goals as goal

pub returns-in-Ok : goal.returns-in-Ok
returns-in-Ok g c =
    let h = c.in-Ok.ensures.tells in
    record { consumed = h.consumed; rest = h.rest; whole = h.whole; answer = h.answer; refused = h.refused; broken_off = h.broken_off }

pub returns : goal.returns
returns g c =
    let picked : JsonMap → Tree → Type 0 = λ ms t. Picks g.W.Wanted.is_wanted (members_of t) (members_view ms.entries) in
    told_error _ None (chars c.args.text.now) picked c.in-Err.error c.from.result c.in-Err.ensures.tells c.from.ensures
