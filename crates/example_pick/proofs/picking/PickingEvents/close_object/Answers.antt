use Rattle.std.proofs.Common.{option_map, refl, ap}
use Rattle.example_pick.proofs.Told.{closed, depth_of, key_of, picked_of}
use Rattle.tinyjson.specs.Events.{at_key}
use Rattle.tinyjson.specs.View.{members_view, text}
use Rattle.tinyjson.specs.Tree.{object}
use Rattle.example_pick.proofs.picking.PickingEvents.close_object.Goals as goal

pub returns : goal.returns
returns g c = λ _ ms os h.
    let e = c.close.ensures in
    closed g.W.Wanted.is_wanted depth_of key_of picked_of (at_key ms) os (object ms) c.args.self.now c.close.new.self
    refl (λ q qs w. w.1) e.depth (ap (option_map text) e.key) (ap (λ m. members_view m.entries) e.members) h
