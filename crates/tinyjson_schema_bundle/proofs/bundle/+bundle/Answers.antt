use Rattle.std.proofs.Common.{◌≡◌, ◌<◌, ◌≤◌, ◌+◌, ◌-◌, ◌*◌, ◌∙◌, length, drop, option_map, arith, rules, sym, ap, subst, chars}
use Rattle.tinyjson.specs.Tree.{put, tree_depth, items_depth, members_depth}
use Rattle.tinyjson.specs.View.{view, items_view, members_view, members_listed}
use Rattle.tinyjson_schema_keywords.proofs.Callers.{listed_depth, items_depth_at}
use Rattle.tinyjson_schema_bundle.specs.Bundles.{pointed, pointed_among, pointed_members, kept_of, put_some}
use Rattle.tinyjson_schema_bundle.specs.Scopes.{guided}
use Rattle.tinyjson_schema_bundle.proofs.Pointing.{AreMade, item_made, items_made, keyword_back, member_back}
use Rattle.tinyjson_schema_bundle.proofs.bundle.+bundle.Goals as goal

pub pointed_items-pointed-requires : goal.pointed_items-pointed-requires
pointed_items-pointed-requires t c =
    let vs = c.args.schemas.now in
    let x = c.index-schemas-index.result in
    let smaller : 3 * tree_depth (view x) + 1 < 3 * items_depth (items_view vs) + 2
    = omega (arith, items_depth_at vs c.loop-index.index x c.loop-index-test.true c.index-schemas-index.is) in
    search rules

pub pointed_items-loop-index-preserved : goal.pointed_items-loop-index-preserved
pointed_items-loop-index-preserved t c =
    let to = guided c.args.guide.now in
    let b = c.args.spot.base.now in
    let p = c.args.spot.place.now in
    let x = c.index-schemas-index.result in
    subst (λ ys. AreMade to b p c.args.schemas.now ys (c.loop-index.index + 1)) (sym c.in_ok-push.ensures.items)
    (item_made to b p c.args.schemas.now c.loop-index.items.items c.loop-index.index x c.in_ok-item.item c.loop-index-test.true
    c.index-schemas-index.is (c.in_ok-item.ensures ∙ ap (λ q. pointed to b q (view x)) (c.as_str.ensures.value ∙ c.in_ok-place.ensures))
    c.loop-index.invariant)

pub pointed_items-returns : goal.pointed_items-returns
pointed_items-returns t c = items_made (guided c.args.guide.now) c.args.spot.base.now c.args.spot.place.now c.args.schemas.now
    c.loop-index.items.items c.loop-index.index c.loop-index-test.false c.loop-index.invariant

pub pointed_members-pointed-requires : goal.pointed_members-pointed-requires
pointed_members-pointed-requires t c =
    let ps = c.args.schemas.now in
    let x = c.index-schemas-left.result in
    let n = c.loop-left.left in
    let here : n - 1 < length ps = omega (arith, c.loop-left-test.true, c.loop-left.invariant.0) in
    let smaller : 3 * tree_depth (view x.1.now) + 1 < 3 * members_depth (members_listed ps) + 2
    = omega (arith, listed_depth ps (n - 1) x here c.index-schemas-left.is) in
    search rules

pub pointed_members-loop-left-preserved : goal.pointed_members-loop-left-preserved
pointed_members-loop-left-preserved t c =
    let to = guided c.args.guide.now in
    let b = c.args.spot.base.now in
    let p = c.args.spot.place.now in
    let ps = c.args.schemas.now in
    let n = c.loop-left.left in
    let x = c.index-schemas-left.result in
    let key = c.as_str.result.now in
    let before : n - 1 ≤ length ps = omega (arith, c.loop-left.invariant.0) in (
      before,
      member_back to b p ps n x key c.loop-left-test.true c.loop-left.invariant.0 c.index-schemas-left.is c.as_str.ensures.value
          (members_view c.loop-left.members.entries) (members_view c.put_member.new.members.entries) (view c.in_ok-value.value)
          c.loop-left.invariant.1
          (c.in_ok-value.ensures ∙ ap (λ q. pointed to b q (view x.1.now)) (c.as_str-in-loop-left.ensures.value ∙ c.in_ok-place.ensures))
          (c.in_ok-put_member.ensures.ok ∙ ap (λ k. put (chars k) (view c.in_ok-value.value) (members_view c.loop-left.members.entries))
          (c.as_str-in-loop-left-2.ensures.value ∙ sym c.as_str.ensures.value)),
    )

pub pointed_members-returns : goal.pointed_members-returns
pointed_members-returns t c =
    let zero : c.loop-left.left ≡ 0 = omega (arith, c.loop-left-test.false) in
    c.loop-left.invariant.1 ∙ ap (λ n. pointed_members (guided c.args.guide.now) c.args.spot.base.now c.args.spot.place.now
    (members_listed (drop n c.args.schemas.now))) zero

pub pointed_named-kept_of-requires : goal.pointed_named-kept_of-requires
pointed_named-kept_of-requires t c =
    let ps = c.args.keywords.now in
    let x = c.index-keywords-left.result in
    let n = c.loop-left.left in
    let here : n - 1 < length ps = omega (arith, c.loop-left-test.true, c.loop-left.invariant.0) in
    let smaller : 3 * tree_depth (view x.1.now) + 2 < 3 * members_depth (members_listed ps) + 3
    = omega (arith, listed_depth ps (n - 1) x here c.index-keywords-left.is) in
    search rules

pub pointed_named-loop-left-preserved : goal.pointed_named-loop-left-preserved
pointed_named-loop-left-preserved t c =
    let to = guided c.args.guide.now in
    let b = c.args.spot.base.now in
    let p = c.args.spot.place.now in
    let ps = c.args.keywords.now in
    let n = c.loop-left.left in
    let x = c.index-keywords-left.result in
    let key = c.as_str.result.now in
    let o = option_map view c.in_ok-kept.kept in
    let before : n - 1 ≤ length ps = omega (arith, c.loop-left.invariant.0) in (
      before,
      keyword_back to b p ps n x key c.loop-left-test.true c.loop-left.invariant.0 c.index-keywords-left.is c.as_str.ensures.value
          (members_view c.loop-left.members.entries) (members_view c.put_some.new.members.entries) o c.loop-left.invariant.1
          (c.in_ok-kept.ensures ∙ (ap (λ k. kept_of to k b p c.as_str-in-loop-left-2.result.now (view x.1.now))
          (c.as_str-in-loop-left.ensures.value ∙ sym c.as_str.ensures.value)
          ∙ ap (λ q. kept_of to key b p q (view x.1.now)) (c.as_str-in-loop-left-2.ensures.value ∙ c.in_ok-place.ensures)))
          (c.in_ok-put_some.ensures ∙ ap (λ k. put_some (chars k) o (members_view c.loop-left.members.entries))
          (c.as_str-in-loop-left-3.ensures.value ∙ sym c.as_str.ensures.value)),
    )

pub pointed_named-returns : goal.pointed_named-returns
pointed_named-returns t c =
    let zero : c.loop-left.left ≡ 0 = omega (arith, c.loop-left-test.false) in
    c.loop-left.invariant.1 ∙ ap (λ n. pointed_among (guided c.args.guide.now) c.args.spot.base.now c.args.spot.place.now
    (members_listed (drop n c.args.keywords.now))) zero
