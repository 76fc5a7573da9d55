use Rattle.std.proofs.Common.{◌≡◌, ◌≤◌, ◌-◌, ◌∙◌, length, drop, arith, ap}
use Rattle.tinyjson.specs.View.{view, members_view, members_listed}
use Rattle.tinyjson_schema_drafts.specs.Translated.{lists_among}
use Rattle.tinyjson_schema_drafts.proofs.Wording.{list_kept, list_put}
use Rattle.tinyjson_schema_drafts.proofs.translate.lists_among.Goals as goal

pub loop-left-preserved : goal.loop-left-preserved
loop-left-preserved c =
    let ps = c.args.members.now in
    let n = c.loop-left.left in
    let before : n - 1 ≤ length ps = omega (arith, c.loop-left.invariant.0) in (
      before,
      list_kept ps n c.index-members-left.result c.loop-left-test.true c.loop-left.invariant.0 c.index-members-left.is
          c.is_array.result (members_view c.loop-left.lists.entries) c.is_array.ensures c.if-is_array.false c.loop-left.invariant.1,
    )

pub loop-left-preserved-in-Continue-branch-2 : goal.loop-left-preserved-in-Continue-branch-2
loop-left-preserved-in-Continue-branch-2 c =
    let ps = c.args.members.now in
    let n = c.loop-left.left in
    let before : n - 1 ≤ length ps = omega (arith, c.loop-left.invariant.0) in (
      before,
      list_put ps n c.index-members-left.result c.loop-left-test.true c.loop-left.invariant.0 c.index-members-left.is
          c.is_array.result (members_view c.loop-left.lists.entries) c.as_str.result.now (view c.in_ok-list.list)
          (members_view c.put_member.new.members.entries) c.as_str.ensures.value c.in_ok-list.ensures c.is_array.ensures
          c.if-is_array.true c.loop-left.invariant.1 c.in_ok-put_member.ensures.ok,
    )

pub returns : goal.returns
returns c =
    let zero : c.loop-left.left ≡ 0 = omega (arith, c.loop-left-test.false) in
    c.loop-left.invariant.1 ∙ ap (λ n. lists_among (members_listed (drop n c.args.members.now))) zero
