use Rattle.std.proofs.Common.{option_map, sym, ap, ◌∙◌}
use Rattle.example_pick.proofs.Told.{value_told, depth_of, key_of, picked_of}
use Rattle.example_pick.specs.Picking.{is_scalar}
use Rattle.tinyjson.proofs.Callers.{view_Boolean, view_Null}
use Rattle.tinyjson.specs.Events.{literal_tree}
use Rattle.tinyjson.specs.View.{text}
use Rattle.example_pick.proofs.picking.PickingEvents.literal.Goals as goal

pub returns-in-None : goal.returns-in-None
returns-in-None g c = λ _ os h.
    let e = c.value.ensures in
    let is = ap literal_tree c.in-None.is in
    value_told g.W.Wanted.is_wanted depth_of key_of picked_of c.value.result os (literal_tree c.args.value) _
    c.args.self.now c.value.new.self (view_Null ∙ sym is) (ap is_scalar is) e.depth (ap (option_map text) e.key) e.members h

pub returns-in-Some : goal.returns-in-Some
returns-in-Some g c = λ _ os h.
    let r = c.value-in-Some in
    let e = r.ensures in
    let is = ap literal_tree c.in-Some.is in
    value_told g.W.Wanted.is_wanted depth_of key_of picked_of r.result os (literal_tree c.args.value) _ c.args.self.now r.new.self
    (view_Boolean c.in-Some.b ∙ sym is) (ap is_scalar is) e.depth (ap (option_map text) e.key) e.members h
