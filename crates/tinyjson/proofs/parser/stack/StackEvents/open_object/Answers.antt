use Rattle.std.proofs.Common.{rules, ◌≡◌, ◌∷◌, ◌++◌, [], ◌∙◌, ap, refl, reverse}
use Rattle.tinyjson_grammar.specs.Machine.{at_key}
use Rattle.tinyjson_grammar.specs.Tree.{no_members}
use Rattle.tinyjson.specs.private.Stack.{maps_of}
use Rattle.tinyjson.proofs.Reading.Stack.{pushed, holds_object, holds_by}
use Rattle.tinyjson.proofs.parser.stack.StackEvents.open_object.Goals as goal

pub returns : goal.returns
returns c = λ _ fs h.
    let s = c.args.self.now in
    let t = c.open_map.new.self in
    let w = c.in_ok-open_map.ensures in
    let o = c.end-place.result in
    let e : c.push.new.self.items ≡ t.places.items ++ o ∷ [] = search rules in
    holds_by (record t { places = c.push.new.self }) (o ∷ reverse s.places.items) (at_key no_members ∷ fs) s.values.items s.keys.items
    (maps_of t)
    (holds_object o (reverse s.places.items) fs s.values.items s.keys.items (maps_of s) (maps_of t) c.end-place.ensures.values
    c.end-place.ensures.keys w.members w.maps h)
    (ap reverse e ∙ pushed t.places.items o ∙ ap (λ v. o ∷ reverse v.items) w.places) (ap (λ v. v.items) w.values)
    (ap (λ v. v.items) w.keys) refl
