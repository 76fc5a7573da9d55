use Rattle.std.proofs.Common.{option_map, refl, ap}
use Rattle.example_pick.proofs.Told.{closed, depth_of, key_of, picked_of}
use Rattle.tinyjson.specs.Events.{in_array}
use Rattle.tinyjson.specs.View.{members_view, text}
use Rattle.tinyjson.specs.Tree.{array, items_of}
use Rattle.example_pick.proofs.picking.PickingEvents.close_array.Goals as goal

pub returns : goal.returns
returns g c = λ _ ts os h.
    let e = c.close.ensures in
    closed g.W.Wanted.is_wanted depth_of key_of picked_of (in_array ts) os (array (items_of ts)) c.args.self.now c.close.new.self
    refl (λ q qs w. w.1) e.depth (ap (option_map text) e.key) (ap (λ m. members_view m.entries) e.members) h
