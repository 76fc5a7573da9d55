use Rattle.std.proofs.Common.{rules, ◌≡◌, ◌∷◌, ◌++◌, [], ◌∙◌, ap, refl, reverse}
use Rattle.tinyjson_grammar.specs.Machine.{in_array}
use Rattle.tinyjson.specs.private.Stack.{maps_of}
use Rattle.tinyjson.proofs.Reading.Stack.{pushed, holds_array, holds_by}
use Rattle.tinyjson.proofs.parser.stack.StackEvents.open_array.Goals as goal

pub returns : goal.returns
returns c = λ _ fs h.
    let s = c.args.self.now in
    let o = c.end-place.result in
    let e : c.push.new.self.items ≡ s.places.items ++ o ∷ [] = search rules in
    holds_by (record s { places = c.push.new.self }) (o ∷ reverse s.places.items) (in_array [] ∷ fs) s.values.items s.keys.items (maps_of s)
    (holds_array o (reverse s.places.items) fs s.values.items s.keys.items (maps_of s) c.end-place.ensures.values h)
    (ap reverse e ∙ pushed s.places.items o) refl refl refl
