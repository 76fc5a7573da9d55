use Rattle.std.proofs.Common.{option_map, refl, ap}
use Rattle.example_pick.proofs.Told.{value_told, depth_of, key_of, picked_of}
use Rattle.tinyjson.proofs.Callers.{view_Number}
use Rattle.tinyjson.specs.View.{text}
use Rattle.tinyjson.specs.Tree.{number}
use Rattle.example_pick.proofs.picking.PickingEvents.number.Goals as goal

pub returns : goal.returns
returns g c = λ _ os h.
    let e = c.value.ensures in
    value_told g.W.Wanted.is_wanted depth_of key_of picked_of c.value.result os (number c.args.value.decimal) _
    c.args.self.now c.value.new.self (view_Number c.args.value) refl e.depth (ap (option_map text) e.key) e.members h
