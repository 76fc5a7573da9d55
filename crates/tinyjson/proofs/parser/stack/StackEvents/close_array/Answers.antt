use Rattle.std.proofs.Common.{rules, ◌≡◌, ◌∷◌, ◌++◌, [], ◌∙◌, ap, sym, subst, reverse, OnOk, take}
use Rattle.tinyjson_grammar.specs.Machine.{in_array}
use Rattle.tinyjson_grammar.specs.Tree.{array, items_of}
use Rattle.tinyjson.specs.View.{items_view}
use Rattle.tinyjson.specs.Events.{Puts}
use Rattle.tinyjson.specs.private.Stack.{holds, is, maps_of}
use Rattle.tinyjson.proofs.Reading.Stack.{pushed, holds_at, holds_by}
use Rattle.tinyjson.proofs.Values.View.{view_Array}
use Rattle.tinyjson.proofs.parser.stack.StackEvents.close_array.Goals as goal

pub returns : goal.returns
returns c = λ _ ts fs h.
    let s = c.args.self.now in
    let o = c.in-Some.place in
    let rest = c.pop.new.self.items in
    let was : s.places.items ≡ rest ++ o ∷ [] = search rules in
    let w = holds_at s (o ∷ reverse rest) (in_array ts ∷ fs) h (ap reverse was ∙ pushed rest o) in
    let i = c.in_ok-items in
    let left = holds_by c.take_items.new.self (reverse rest) fs (take o.values s.values.items) s.keys.items (maps_of s) w.2
    (ap (λ v. reverse v.items) i.ensures.places) i.ensures.values (ap (λ v. v.items) i.ensures.keys)
    (ap (λ v. reverse v.items) i.ensures.maps) in
    subst (λ t. OnOk c.push.result (Puts holds is fs t c.push.new.self))
    (view_Array i.items ∙ ap (λ ws. array (items_view ws)) i.ensures.items ∙ ap (λ us. array (items_of us)) (sym w.1))
    (c.push.ensures fs left)
