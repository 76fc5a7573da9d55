use Rattle.std.proofs.Common.{◌≡◌, ◌∙◌, ◌+◌, Some, Err, drop, option_map, sym, ap, subst, true≢false, rules}
use Rattle.std.specs.Str.{chars}
use Rattle.tinyjson.specs.Tree.{member, object}
use Rattle.tinyjson.specs.View.{view, members_view}
use Rattle.tinyjson_document.specs.Parts.{members_in}
use Rattle.tinyjson_view.specs.Views.{tree_of, members_of}
use Rattle.tinyjson_diff.specs.Changes.{Changes, IsChange, members_had}
use Rattle.tinyjson_diff.proofs.Changing.{AreChanged, changed_begins, changed_next, found_now}
use Rattle.tinyjson_diff.proofs.Ends.{ends_same, ends_some}
use Rattle.tinyjson_diff.proofs.Steps.{drop_end, listed_first}
use Rattle.tinyjson_diff.proofs.Unreached.{error_below}
use Rattle.tinyjson_diff.proofs.Values.{lighter, object_tree, old_is, sorted_members}
use Rattle.tinyjson_diff.proofs.merge.+change.Goals as goal

pub change-requires : goal.change-requires
change-requires t c =
    let x = c.member-item.result in
    let smaller = lighter (tree_of c.args.new) c.as_slice-member-items.result.now c.loop-member.member-index x
    (sym c.if-not-is_object.false ∙ c.is_object.ensures)
    (ap members_of c.as_slice-member-items.ensures.value ∙ c.in_ok-after.ensures.listed) c.loop-member-test.true c.member-item.is in
    search rules

pub returns-then-is_kept : goal.returns-then-is_kept
returns-then-is_kept t c = c.is_kept.ensures c.if-is_kept.true

pub loop-member-init : goal.loop-member-init
loop-member-init t c =
    let ns = members_in (tree_of c.args.new) in
    changed_begins (members_had c.object_of-before.result) ns (members_view c.in_ok-changes.changes.entries)
    (members_of c.as_slice-member-items.result.now) c.in_ok-changes.ensures
    (ap members_of c.as_slice-member-items.ensures.value ∙ c.in_ok-after.ensures.listed) (sorted_members c.args.new)

pub loop-member-preserved : goal.loop-member-preserved
loop-member-preserved t c =
    let os = members_had c.object_of-before.result in
    let ns = members_in (tree_of c.args.new) in
    let now = members_view c.loop-member.changes.entries in
    let ps = c.as_slice-member-items.result.now in
    let i = c.loop-member.member-index in
    let x = c.member-item.result in
    let k = chars x.key.now in
    let v = tree_of x.value in
    let rest = members_of (drop (i + 1) ps) in
    let turn : AreChanged os ns now (member k v rest)
    = subst (AreChanged os ns now) (listed_first ps i x c.loop-member-test.true c.member-item.is) c.loop-member.invariant in
    let part = subst (Changes (option_map tree_of c.member_of.result) v) c.in-Ok.is c.change.ensures in
    changed_next os ns now rest k v turn (members_view c.put_change.new.changes.entries) (option_map view c.in-Ok.patch)
    (subst (λ o. IsChange o (Some v) (option_map view c.in-Ok.patch)) c.member_of.ensures part)
    c.in-Ok-put_change.ensures

pub returns-in-Err : goal.returns-in-Err
returns-in-Err t c =
    let os = members_had c.object_of-before.result in
    let ns = members_in (tree_of c.args.new) in
    let o = option_map tree_of c.args.old in
    let now = members_view c.loop-member.changes.entries in
    let ps = c.as_slice-member-items.result.now in
    let i = c.loop-member.member-index in
    let x = c.member-item.result in
    let k = chars x.key.now in
    let v = tree_of x.value in
    let rest = members_of (drop (i + 1) ps) in
    let turn : AreChanged os ns now (member k v rest)
    = subst (AreChanged os ns now) (listed_first ps i x c.loop-member-test.true c.member-item.is) c.loop-member.invariant in
    let whole : tree_of c.args.new ≡ object ns = object_tree (tree_of c.args.new) (sym c.if-not-is_object.false ∙ c.is_object.ensures) in
    let inner = subst (λ y. Changes y v (Err c.in-Err.error)) c.member_of.ensures c.in-Err.ensures in
    subst (λ f. Changes o (tree_of c.args.new) (Err f)) (sym c.give_up-in-Err.ensures)
    (subst (λ u. Changes o u (Err c.below.result)) (sym whole)
    (error_below o os ns k v c.in-Err.error c.below.result
    (old_is c.object_of-before.result o c.object_of-before.ensures) (found_now os ns now rest k v turn) inner c.below.ensures))

pub returns-then-not-is_empty : goal.returns-then-not-is_empty
returns-then-not-is_empty t c =
    let ps = c.as_slice-member-items.result.now in
    let i = c.loop-member.member-index in
    let whole = object_tree (tree_of c.args.new) (sym c.if-not-is_object.false ∙ c.is_object.ensures) in
    ends_some (option_map tree_of c.args.old) c.object_of-before.result c.args.new (members_of (drop i ps))
    c.loop-member.changes c.object_of-before.ensures whole c.loop-member.invariant (ap members_of (drop_end ps i c.loop-member-test.false))
    (λ h. absurd (true≢false (sym (c.is_empty.ensures.1 h) ∙ c.if-not-is_empty.true)))

pub returns-in-Some : goal.returns-in-Some
returns-in-Some t c =
    let ps = c.as_slice-member-items.result.now in
    let i = c.loop-member.member-index in
    let whole = object_tree (tree_of c.args.new) (sym c.if-not-is_object.false ∙ c.is_object.ensures) in
    ends_same (option_map tree_of c.args.old) c.object_of-before.result c.args.new (members_of (drop i ps))
    c.loop-member.changes c.object_of-before.ensures whole c.loop-member.invariant (ap members_of (drop_end ps i c.loop-member-test.false))
    c.in-Some.is (c.is_empty.ensures.0 c.if-not-is_empty.false)

pub returns-in-None : goal.returns-in-None
returns-in-None t c =
    let ps = c.as_slice-member-items.result.now in
    let i = c.loop-member.member-index in
    let whole = object_tree (tree_of c.args.new) (sym c.if-not-is_object.false ∙ c.is_object.ensures) in
    ends_some (option_map tree_of c.args.old) c.object_of-before.result c.args.new (members_of (drop i ps))
    c.loop-member.changes c.object_of-before.ensures whole c.loop-member.invariant (ap members_of (drop_end ps i c.loop-member-test.false))
    (λ h. sym c.object_of-before.ensures ∙ ap (option_map (λ v. members_in (tree_of v))) c.in-None.is)
