use Rattle.std.proofs.Common.{rules, refl, reverse}
use Rattle.tinyjson.specs.private.Stack.{maps_of}
use Rattle.tinyjson.specs.declared.value.JsonValue.TheVariants as is
use Rattle.tinyjson.proofs.Reading.Stack.{holds_value}
use Rattle.tinyjson.proofs.Values.View.{view_Number}
use Rattle.tinyjson.proofs.parser.stack.StackEvents.number.Goals as goal

pub returns : goal.returns
returns c = λ _ fs h.
    let s = c.args.self.now in
    holds_value s.values.items (is.Number c.args.value) s.keys.items (maps_of s) (reverse s.places.items) fs _ _ h
    (view_Number c.args.value) refl (search rules) refl refl
