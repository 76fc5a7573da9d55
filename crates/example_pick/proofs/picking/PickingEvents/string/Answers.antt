use Rattle.std.proofs.Common.{option_map, refl, ap, ◌∙◌}
use Rattle.std.specs.Str.{chars}
use Rattle.example_pick.proofs.Told.{value_told, depth_of, key_of, picked_of}
use Rattle.tinyjson.proofs.Callers.{view_String}
use Rattle.tinyjson.specs.View.{text}
use Rattle.tinyjson.specs.Tree.{string}
use Rattle.example_pick.proofs.picking.PickingEvents.string.Goals as goal

pub returns : goal.returns
returns g c = λ _ os h.
    let e = c.value.ensures in
    value_told g.W.Wanted.is_wanted depth_of key_of picked_of c.value.result os (string (chars c.args.value.now)) _
    c.args.self.now c.value.new.self (view_String c.in_ok-value.value ∙ ap (λ bs. string (chars bs)) c.in_ok-value.ensures.ok)
    refl e.depth (ap (option_map text) e.key) e.members h
