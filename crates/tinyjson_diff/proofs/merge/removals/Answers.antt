use Rattle.std.proofs.Common.{◌∙◌, ◌+◌, drop, sym, ap, subst}
use Rattle.std.specs.Str.{chars}
use Rattle.tinyjson.proofs.Callers.{view_Null}
use Rattle.tinyjson.specs.Tree.{member, put}
use Rattle.tinyjson.specs.View.{members_view}
use Rattle.tinyjson_document.specs.Parts.{members_in}
use Rattle.tinyjson_view.specs.Views.{tree_of, members_of}
use Rattle.tinyjson_diff.specs.Changes.{members_had}
use Rattle.tinyjson_diff.proofs.Removing.{AreRemoved, removed_begins, removed_ends, removed_none, removed_some}
use Rattle.tinyjson_diff.proofs.Steps.{drop_end, listed_first}
use Rattle.tinyjson_diff.proofs.Values.{sorted_old}
use Rattle.tinyjson_diff.proofs.merge.removals.Goals.{then-not-has_key+in-Ok, else-not-has_key}
use Rattle.tinyjson_diff.proofs.merge.removals.Goals as goal

pub loop-member-init : goal.loop-member-init
loop-member-init c =
    removed_begins (members_had c.args.before) (members_in (tree_of c.args.after)) (members_view c.new-removals.result.entries)
    (members_of c.as_slice-member-items.result.now) (ap members_view c.new-removals.ensures.empty)
    (ap members_of c.as_slice-member-items.ensures.value ∙ (c.in_ok-members.ensures.listed ∙ ap members_had (sym c.in-Some.is)))
    (sorted_old c.args.before)

pub loop-member-preserved : goal.loop-member-preserved
loop-member-preserved c =
    let os = members_had c.args.before in
    let ns = members_in (tree_of c.args.after) in
    let now = members_view c.loop-member.removals.entries in
    let ps = c.as_slice-member-items.result.now in
    let i = c.loop-member.member-index in
    let x = c.member-item.result in
    let k = chars x.key.now in
    let v = tree_of x.value in
    let rest = members_of (drop (i + 1) ps) in
    let turn : AreRemoved os ns now (member k v rest)
    = subst (AreRemoved os ns now) (listed_first ps i x c.loop-member-test.true c.member-item.is) c.loop-member.invariant in
    elim c.if-not-has_key.branch [
      | then-not-has_key+in-Ok w ↦
          removed_some os ns now rest k v turn (members_view c.if-not-has_key.removals.entries)
          (sym c.has_key.ensures ∙ w.if-not-has_key.true)
          (ap (λ m. members_view m.entries) w.removals-is ∙ (w.in-Ok.ensures.ok ∙ ap (λ t. put k t now) view_Null))
      | else-not-has_key w ↦
          subst (λ m. AreRemoved os ns (members_view m.entries) rest) (sym w.removals-is)
          (removed_none os ns now rest k v turn (sym c.has_key.ensures ∙ w.if-not-has_key.false))
    ]

pub returns : goal.returns
returns c =
    let ps = c.as_slice-member-items.result.now in
    let ns = members_in (tree_of c.args.after) in
    let now = members_view c.loop-member.removals.entries in
    removed_ends (members_had c.args.before) ns now (members_of (drop c.loop-member.member-index ps)) c.loop-member.invariant
    (ap members_of (drop_end ps c.loop-member.member-index c.loop-member-test.false))
