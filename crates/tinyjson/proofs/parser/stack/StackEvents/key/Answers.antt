use Rattle.std.proofs.Common.{rules, ◌≡◌, ◌∷◌, ◌++◌, [], ap, refl, reverse, subst}
use Rattle.std.specs.Str.{chars}
use Rattle.tinyjson_grammar.specs.Machine.{at_value}
use Rattle.tinyjson.specs.View.{text}
use Rattle.tinyjson.specs.private.Stack.{Holds, maps_of}
use Rattle.tinyjson.proofs.Reading.Stack.{holds_key, holds_by}
use Rattle.tinyjson.proofs.parser.stack.StackEvents.key.Goals as goal

pub returns : goal.returns
returns c = λ _ ms fs h.
    let t = c.settle.new.self in
    let k = c.in_ok-key.key in
    let os = reverse t.places.items in
    let read : text k ≡ chars c.args.key.now = ap chars c.in_ok-key.ensures.ok in
    let e : c.push.new.self.items ≡ t.keys.items ++ k ∷ [] = search rules in
    holds_by (record t { keys = c.push.new.self }) os (at_value ms (chars c.args.key.now) ∷ fs) t.values.items (t.keys.items ++ k ∷ [])
    (maps_of t)
    (subst (λ cs. Holds os (at_value ms cs ∷ fs) t.values.items (t.keys.items ++ k ∷ []) (maps_of t)) read
    (holds_key os fs ms t.values.items t.keys.items (maps_of t) k (c.in_ok-settle.ensures ms fs h))) refl refl e refl
