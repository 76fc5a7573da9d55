use Rattle.std.proofs.Common.{rules, ◌≡◌, ◌∷◌, ◌++◌, [], ◌∙◌, ap, sym, subst, reverse, OnOk, take}
use Rattle.tinyjson_grammar.specs.Machine.{at_key}
use Rattle.tinyjson_grammar.specs.Tree.{object}
use Rattle.tinyjson.specs.Events.{Puts}
use Rattle.tinyjson.specs.private.Stack.{holds, is, maps_of, other_maps}
use Rattle.tinyjson.proofs.Reading.Stack.{pushed, holds_at, holds_by}
use Rattle.tinyjson.proofs.Values.View.{view_Object}
use Rattle.tinyjson.proofs.parser.stack.StackEvents.close_object.Goals as goal

pub returns : goal.returns
returns c = λ _ ms fs h.
    let s = c.args.self.now in
    let o = c.in-Some.place in
    let rest = c.pop.new.self.items in
    let was : s.places.items ≡ rest ++ o ∷ [] = search rules in
    let w = holds_at s (o ∷ reverse rest) (at_key ms ∷ fs) h (ap reverse was ∙ pushed rest o) in
    let i = c.in_ok-members in
    let left = holds_by c.take_members.new.self (reverse rest) fs (take o.values s.values.items) (take o.keys s.keys.items)
    (other_maps (maps_of s)) w.4 (ap (λ v. reverse v.items) i.ensures.places) i.ensures.values i.ensures.keys i.ensures.maps in
    subst (λ t. OnOk c.push.result (Puts holds is fs t c.push.new.self))
    (view_Object c.trim.new.members ∙ ap object (c.trim.ensures ∙ i.ensures.members ∙ sym w.3)) (c.push.ensures fs left)
