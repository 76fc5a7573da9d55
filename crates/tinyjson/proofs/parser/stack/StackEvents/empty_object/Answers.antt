use Rattle.std.proofs.Common.{rules, ◌≡◌, ◌∙◌, ap, refl, reverse}
use Rattle.tinyjson_grammar.specs.Tree.{object, no_members}
use Rattle.tinyjson.specs.View.{members_view}
use Rattle.tinyjson.specs.private.Stack.{maps_of}
use Rattle.tinyjson.specs.declared.value.JsonValue.TheVariants as is
use Rattle.tinyjson.proofs.Reading.Stack.{holds_value}
use Rattle.tinyjson.proofs.Values.View.{view_Object}
use Rattle.tinyjson.proofs.parser.stack.StackEvents.empty_object.Goals as goal

pub returns : goal.returns
returns c = λ _ fs h.
    let s = c.args.self.now in
    let members = c.new.result in
    let none : members_view members.entries ≡ no_members = search rules in
    holds_value s.values.items (is.Object members) s.keys.items (maps_of s) (reverse s.places.items) fs _ _ h
    (view_Object members ∙ ap object none) refl (search rules) refl refl
