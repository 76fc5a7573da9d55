use Rattle.std.proofs.Common.{◌≡◌, ◌<◌, ◌≤◌, ◌+◌, ◌-◌, ◌*◌, ◌∙◌, length, drop, option_map, arith, rules, sym, ap, subst, chars}
use Rattle.tinyjson.specs.Tree.{put, tree_depth, items_depth, members_depth}
use Rattle.tinyjson.specs.View.{view, items_view, members_view, members_listed}
use Rattle.tinyjson_schema_keywords.proofs.Callers.{listed_depth, items_depth_at}
use Rattle.tinyjson_schema_drafts.specs.Rules.{rule_of}
use Rattle.tinyjson_schema_drafts.specs.Translated.{words_among, members_in_words, value_of, put_by, put_lists}
use Rattle.tinyjson_schema_drafts.proofs.Wording.{AreMade, item_made, items_made, word_back, member_kept, member_put}
use Rattle.tinyjson_schema_drafts.proofs.translate.+words.Goals as goal

pub items_in_words-in_words-requires : goal.items_in_words-in_words-requires
items_in_words-in_words-requires t c =
    let vs = c.args.schemas.now in
    let x = c.schema-item.result in
    let smaller : 3 * tree_depth (view x) + 1 < 3 * items_depth (items_view vs) + 2
    = omega (arith, items_depth_at vs c.loop-schema.schema-index x c.loop-schema-test.true c.schema-item.is) in
    search rules

pub items_in_words-loop-schema-preserved : goal.items_in_words-loop-schema-preserved
items_in_words-loop-schema-preserved t c =
    let d = c.args.reading.draft in
    let r = view c.args.reading.resource.now in
    subst (λ ys. AreMade d r c.args.schemas.now ys (c.loop-schema.schema-index + 1)) (sym c.in_ok-push.ensures.items)
    (item_made d r c.args.schemas.now c.loop-schema.items.items c.loop-schema.schema-index c.schema-item.result c.in_ok-item.item
    c.loop-schema-test.true c.schema-item.is c.in_ok-item.ensures c.loop-schema.invariant)

pub items_in_words-returns : goal.items_in_words-returns
items_in_words-returns t c = items_made c.args.reading.draft (view c.args.reading.resource.now) c.args.schemas.now
    c.loop-schema.items.items c.loop-schema.schema-index c.loop-schema-test.false c.loop-schema.invariant

pub members_in_words-in_words-requires : goal.members_in_words-in_words-requires
members_in_words-in_words-requires t c =
    let ps = c.args.schemas.now in
    let x = c.index-schemas-left.result in
    let n = c.loop-left.left in
    let here : n - 1 < length ps = omega (arith, c.loop-left-test.true, c.loop-left.invariant.0) in
    let smaller : 3 * tree_depth (view x.1.now) + 1 < 3 * members_depth (members_listed ps) + 2
    = omega (arith, listed_depth ps (n - 1) x here c.index-schemas-left.is) in
    search rules

pub members_in_words-returns : goal.members_in_words-returns
members_in_words-returns t c =
    let zero : c.loop-left.left ≡ 0 = omega (arith, c.loop-left-test.false) in
    c.loop-left.invariant.1 ∙ ap (λ n. members_in_words c.args.has_lists c.args.reading.draft (view c.args.reading.resource.now)
    (members_listed (drop n c.args.schemas.now))) zero

pub words_among-value_of-requires : goal.words_among-value_of-requires
words_among-value_of-requires t c =
    let ps = c.args.keywords.now in
    let x = c.index-keywords-left.result in
    let n = c.loop-left.left in
    let here : n - 1 < length ps = omega (arith, c.loop-left-test.true, c.loop-left.invariant.0) in
    let smaller : 3 * tree_depth (view x.1.now) + 2 < 3 * members_depth (members_listed ps) + 3
    = omega (arith, listed_depth ps (n - 1) x here c.index-keywords-left.is) in
    search rules

pub words_among-returns : goal.words_among-returns
words_among-returns t c =
    let zero : c.loop-left.left ≡ 0 = omega (arith, c.loop-left-test.false) in
    c.loop-left.invariant.1 ∙ ap (λ n. words_among c.args.traits c.args.reading.draft (view c.args.reading.resource.now)
    (members_listed (drop n c.args.keywords.now))) zero

pub words_among-loop-left-preserved : goal.words_among-loop-left-preserved
words_among-loop-left-preserved t c =
    let d = c.args.reading.draft in
    let r = view c.args.reading.resource.now in
    let ps = c.args.keywords.now in
    let n = c.loop-left.left in
    let x = c.index-keywords-left.result in
    let key = c.as_str-name.result.now in
    let before : n - 1 ≤ length ps = omega (arith, c.loop-left.invariant.0) in (
      before,
      word_back ps n x key c.loop-left-test.true c.loop-left.invariant.0 c.index-keywords-left.is c.as_str-name.ensures.value d r
          c.args.traits (members_view c.loop-left.members.entries) (members_view c.put_lists.new.members.entries)
          (members_view c.put_by.new.members.entries) (option_map view c.in_ok-value.value) c.rule_of-rule.result c.rule_of-rule.ensures
          c.loop-left.invariant.1 c.in_ok-value.ensures c.in_ok-put_lists.ensures c.in_ok-put_by.ensures,
    )

pub members_in_words-loop-left-preserved : goal.members_in_words-loop-left-preserved
members_in_words-loop-left-preserved t c =
    let ps = c.args.schemas.now in
    let n = c.loop-left.left in
    let before : n - 1 ≤ length ps = omega (arith, c.loop-left.invariant.0) in (
      before,
      member_kept ps n c.index-schemas-left.result c.loop-left-test.true c.loop-left.invariant.0 c.index-schemas-left.is
          c.is_left_out.result (members_view c.loop-left.members.entries) c.args.has_lists c.args.reading.draft
          (view c.args.reading.resource.now) c.is_left_out.ensures c.loop-left.invariant.1 c.if-not-is_left_out.false,
    )

pub members_in_words-loop-left-preserved-in-Continue-branch-2 : goal.members_in_words-loop-left-preserved-in-Continue-branch-2
members_in_words-loop-left-preserved-in-Continue-branch-2 t c =
    let ps = c.args.schemas.now in
    let n = c.loop-left.left in
    let before : n - 1 ≤ length ps = omega (arith, c.loop-left.invariant.0) in (
      before,
      member_put ps n c.index-schemas-left.result c.loop-left-test.true c.loop-left.invariant.0 c.index-schemas-left.is
          c.is_left_out.result (members_view c.loop-left.members.entries) c.args.has_lists c.args.reading.draft
          (view c.args.reading.resource.now) c.is_left_out.ensures c.loop-left.invariant.1 c.as_str.result.now
          (view c.in_ok-value.value) (members_view c.put_member.new.members.entries) c.as_str.ensures.value c.in_ok-value.ensures
          c.if-not-is_left_out.true c.in_ok-put_member.ensures.ok,
    )
