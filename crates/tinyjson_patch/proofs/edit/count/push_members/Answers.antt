use Rattle.std.proofs.Common.{◌≡◌, ◌+◌, suc, [], ap, arith, refl, subst, sym, ◌∙◌}
use Rattle.std.specs.List.Sorted.{IsStrictlySortedBy}
use Rattle.std.specs.Map.{keys_of}
use Rattle.std.specs.String.{string_cmp}
use Rattle.tinyjson_document.specs.Parts.{member_count}
use Rattle.tinyjson_grammar.specs.Tree.{object}
use Rattle.tinyjson_patch.specs.Copies.{member_values, value_count}
use Rattle.tinyjson_patch.specs.private.Edited.{members_tree, tree}
use Rattle.tinyjson_patch.specs.private.Writing.{listed}
use Rattle.tinyjson_patch.proofs.Editing.Counting.{all_spread, one_spread, spread_begins}
use Rattle.tinyjson_patch.proofs.Editing.Listed.{members_are_listed}
use Rattle.tinyjson_patch.proofs.edit.count.push_members.Goals as goal

pub loop-member-init : goal.loop-member-init
loop-member-init c =
    let es = c.iter-rest.result in
    let sorted = subst (λ xs. IsStrictlySortedBy string_cmp (keys_of xs)) (sym c.iter-rest.ensures.rest) c.iter-rest.ensures.ordered in
    let all = sym (members_are_listed es sorted) ∙ ap members_tree c.iter-rest.ensures.rest in
    spread_begins (object (members_tree c.args.members.now.entries)) c.args.stack.now.items _ _ (ap member_values all) (ap member_count all)

pub loop-member-preserved : goal.loop-member-preserved
loop-member-preserved c =
    let l = c.loop-member in
    let es = c.next.new.self in
    let one : member_count (listed l.rest) ≡ suc (member_count (listed es)) = ap (λ xs. member_count (listed xs)) c.in-Some.ensures.steps in
    one_spread (object (members_tree c.args.members.now.entries)) c.args.stack.now.items l.stack.items c.put_part.new.stack.items
    c.part_of.result _ _ (member_values (listed es)) (member_count (listed es)) l.invariant
    (ap (λ xs. member_values (listed xs)) c.in-Some.ensures.steps
    ∙ ap (λ t. value_count t + member_values (listed es)) (sym c.part_of.ensures))
    (omega (arith, one)) c.in_ok-put_part.ensures

pub returns : goal.returns
returns c =
    let l = c.loop-member in
    all_spread (object (members_tree c.args.members.now.entries)) c.args.stack.now.items l.stack.items _ _
    (ap (λ es. member_values (listed es)) c.in_default.ensures.steps.0) (ap (λ es. member_count (listed es)) c.in_default.ensures.steps.0)
    l.invariant
