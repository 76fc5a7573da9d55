use Rattle.std.proofs.Common.{◌≡◌, [], length, ap, arith, refl, ◌∙◌}
use Rattle.std.proofs.lemmas.List.{nil_from_length}
use Rattle.tinyjson_document.specs.Parts.{member_count}
use Rattle.tinyjson_grammar.specs.Tree.{object}
use Rattle.tinyjson_view.specs.Views.{members_of}
use Rattle.tinyjson_patch.specs.Copies.{member_values}
use Rattle.tinyjson_patch.specs.declared.edit.find.Part.TheVariants as part
use Rattle.tinyjson_patch.proofs.Editing.Counting.{all_spread, length_last, one_spread, spread_begins, named_count_last, named_last}
use Rattle.tinyjson_patch.proofs.edit.count.push_named.Goals as goal

pub loop-member-init : goal.loop-member-init
loop-member-init c = spread_begins (object (members_of c.args.named.items)) c.args.stack.now.items _ _ refl refl

pub loop-member-smaller : goal.loop-member-smaller
loop-member-smaller c =
    let n = ap length c.in-Some.ensures.items ∙ length_last c.pop.new.self.items c.in-Some.member in omega (arith, n)

pub loop-member-preserved : goal.loop-member-preserved
loop-member-preserved c =
    let l = c.loop-member in
    let front = c.pop.new.self.items in
    one_spread (object (members_of c.args.named.items)) c.args.stack.now.items l.stack.items c.put_part.new.stack.items
    (part.Kept c.in-Some.member.value) _ _ _ _ l.invariant
    (ap (λ vs. member_values (members_of vs)) c.in-Some.ensures.items ∙ named_last front c.in-Some.member)
    (ap (λ vs. member_count (members_of vs)) c.in-Some.ensures.items ∙ named_count_last front c.in-Some.member) c.in_ok-put_part.ensures

pub returns : goal.returns
returns c =
    let l = c.loop-member in
    let none : l.named.items ≡ [] = nil_from_length l.named.items (omega (arith, l.named.ok.0, c.in_default.ensures.cases)) in
    all_spread (object (members_of c.args.named.items)) c.args.stack.now.items l.stack.items _ _
    (ap (λ vs. member_values (members_of vs)) none) (ap (λ vs. member_count (members_of vs)) none) l.invariant
