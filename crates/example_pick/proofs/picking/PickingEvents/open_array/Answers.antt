use Rattle.std.proofs.Common.{[], ap, option_map}
use Rattle.example_pick.proofs.Told.{opened, depth_of, key_of, picked_of}
use Rattle.tinyjson.specs.Events.{in_array}
use Rattle.tinyjson.specs.View.{text}
use Rattle.example_pick.proofs.picking.PickingEvents.open_array.Goals as goal

pub returns : goal.returns
returns g c = λ _ os h.
    let e = c.open.ensures in
    opened g.W.Wanted.is_wanted depth_of key_of picked_of c.open.result (in_array []) os c.args.self.now c.open.new.self
    (λ q qs n p. (n, p)) e.depth (ap (option_map text) e.key) e.members h
