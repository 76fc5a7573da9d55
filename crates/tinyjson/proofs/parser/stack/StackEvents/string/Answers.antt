use Rattle.std.proofs.Common.{rules, ◌∙◌, ap, refl, reverse}
use Rattle.std.specs.Str.{chars}
use Rattle.tinyjson_grammar.specs.Tree.{string}
use Rattle.tinyjson.specs.private.Stack.{maps_of}
use Rattle.tinyjson.specs.declared.value.JsonValue.TheVariants as is
use Rattle.tinyjson.proofs.Reading.Stack.{holds_value}
use Rattle.tinyjson.proofs.Values.View.{view_String}
use Rattle.tinyjson.proofs.parser.stack.StackEvents.string.Goals as goal

pub returns : goal.returns
returns c = λ _ fs h.
    let s = c.args.self.now in
    let v = c.in_ok-value.value in
    holds_value s.values.items (is.String v) s.keys.items (maps_of s) (reverse s.places.items) fs _ _ h
    (view_String v ∙ ap (λ bs. string (chars bs)) c.in_ok-value.ensures.ok) refl (search rules) refl refl
