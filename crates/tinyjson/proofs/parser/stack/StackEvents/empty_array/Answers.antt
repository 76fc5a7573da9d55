use Rattle.std.proofs.Common.{rules, ◌≡◌, ◌∙◌, [], ap, refl, reverse}
use Rattle.tinyjson_grammar.specs.Tree.{array}
use Rattle.tinyjson.specs.View.{items_view}
use Rattle.tinyjson.specs.private.Stack.{maps_of}
use Rattle.tinyjson.specs.declared.value.JsonValue.TheVariants as is
use Rattle.tinyjson.proofs.Reading.Stack.{holds_value}
use Rattle.tinyjson.proofs.Values.View.{view_Array}
use Rattle.tinyjson.proofs.parser.stack.StackEvents.empty_array.Goals as goal

pub returns : goal.returns
returns c = λ _ fs h.
    let s = c.args.self.now in
    let items = c.new.result in
    let none : items.items ≡ [] = search rules in
    holds_value s.values.items (is.Array items) s.keys.items (maps_of s) (reverse s.places.items) fs _ _ h
    (view_Array items ∙ ap (λ vs. array (items_view vs)) none) refl (search rules) refl refl
