use Rattle.std.proofs.Common.{◌≡◌, ◌∙◌, ◌+◌, drop, refl, sym, ap, subst}
use Rattle.std.specs.Str.{chars}
use Rattle.tinyjson.specs.Tree.{find, member}
use Rattle.tinyjson_document.specs.Parts.{members_in}
use Rattle.tinyjson_view.specs.Views.{tree_of, members_of}
use Rattle.tinyjson_diff.specs.Steps.{actions_of}
use Rattle.tinyjson_diff.specs.declared.step.Change.TheVariants as change
use Rattle.tinyjson_diff.proofs.Members.{RemovesPassed, removing_begins, removing_ends, removing_keeps}
use Rattle.tinyjson_diff.proofs.Members.{removing_removes, none_found, some_found}
use Rattle.tinyjson_diff.proofs.Steps.{drop_end, listed_first, pushed_at}
use Rattle.tinyjson_diff.proofs.Values.{sorted_members}
use Rattle.tinyjson_diff.proofs.patch.removed_members.Goals.{then-not-has_key+in_ok-at_key+in_ok-push, else-not-has_key}
use Rattle.tinyjson_diff.proofs.patch.removed_members.Goals as goal

pub loop-member-init : goal.loop-member-init
loop-member-init c =
    let os = members_in (tree_of c.args.before) in
    let ns = members_in (tree_of c.args.after) in
    let whole : members_of c.as_slice-member-items.result.now ≡ os
    = ap members_of c.as_slice-member-items.ensures.value ∙ c.in_ok-members.ensures.listed in
    subst (λ ms. RemovesPassed os ns ms (actions_of c.new-steps.result.items)) (sym whole)
    (subst (λ l. RemovesPassed os ns os (actions_of l)) (sym c.new-steps.ensures.items)
    (removing_begins os ns (sorted_members c.args.before)))

pub loop-member-preserved : goal.loop-member-preserved
loop-member-preserved c =
    let os = members_in (tree_of c.args.before) in
    let ns = members_in (tree_of c.args.after) in
    let ps = c.as_slice-member-items.result.now in
    let i = c.loop-member.member-index in
    let x = c.member-item.result in
    let k = chars x.key.now in
    let v = tree_of x.value in
    let rest = members_of (drop (i + 1) ps) in
    let xs = actions_of c.loop-member.steps.items in
    let turn : RemovesPassed os ns (member k v rest) xs
    = subst (λ ms. RemovesPassed os ns ms xs) (listed_first ps i x c.loop-member-test.true c.member-item.is) c.loop-member.invariant in
    elim c.if-not-has_key.branch [
      | then-not-has_key+in_ok-at_key+in_ok-push w ↦
          subst (RemovesPassed os ns rest)
          (sym (ap (λ s. actions_of s.items) w.steps-is
          ∙ pushed_at c.loop-member.steps.items w.push.new.self.items w.in_ok-at_key.field-0 change.Remove
          k k w.in_ok-push.ensures.items w.in_ok-at_key.ensures refl))
          (removing_removes os ns rest k v xs turn (none_found (find k ns) (sym c.has_key.ensures ∙ w.if-not-has_key.true)))
      | else-not-has_key w ↦
          let here = some_found (find k ns) (sym c.has_key.ensures ∙ w.if-not-has_key.false) in
          subst (RemovesPassed os ns rest) (sym (ap (λ s. actions_of s.items) w.steps-is))
          (removing_keeps os ns rest k v xs turn here.0 here.1)
    ]

pub returns : goal.returns
returns c =
    removing_ends (members_in (tree_of c.args.before)) (members_in (tree_of c.args.after))
    (members_of (drop c.loop-member.member-index c.as_slice-member-items.result.now)) (actions_of c.loop-member.steps.items)
    (ap members_of (drop_end c.as_slice-member-items.result.now c.loop-member.member-index c.loop-member-test.false))
    c.loop-member.invariant
