use Rattle.std.proofs.Common.{rules, refl, reverse}
use Rattle.tinyjson.specs.private.Stack.{maps_of}
use Rattle.tinyjson.proofs.Reading.Stack.{holds_value}
use Rattle.tinyjson.proofs.parser.stack.StackEvents.literal.Goals as goal

pub returns : goal.returns
returns c = λ _ fs h.
    let s = c.args.self.now in
    holds_value s.values.items c.literal_value.result s.keys.items (maps_of s) (reverse s.places.items) fs _ _ h
    c.literal_value.ensures refl (search rules) refl refl
