use Rattle.std.proofs.Common.{◌≡◌, ◌<◌, ◌+◌, ◌*◌, ◌∙◌, suc, None, arith, rules, refl, subst, sym, ap, option_map}
use Rattle.std.specs.Prelude.{IfOk}
use Rattle.std.specs.Str.{chars}
use Rattle.tinyjson.specs.View.{view}
use Rattle.tinyjson_document.specs.Parts.{members_in}
use Rattle.tinyjson_view.specs.Views.{tree_of, members_of}
use Rattle.tinyjson_view.specs.declared.view.MemberView.{MemberView}
use Rattle.tinyjson_schema_keywords.proofs.Callers.{turn_end}
use Rattle.tinyjson_schema_report.specs.Nearest.{gap, gap_at, gap_of, member_gap, tag_gap}
use Rattle.tinyjson_schema_report.proofs.Nearing.{first_stop, first_next, by_kind, by_tag, by_other, by_part, gap_before}
use Rattle.tinyjson_schema_report.proofs.nearest.+lack.Goals as goal

pub lack_in-returns-in-Some-2 : goal.lack_in-returns-in-Some-2
lack_in-returns-in-Some-2 t c =
    let root = view c.args.walk.whole.now.root.now in
    let r = view c.in_ok-schema.schema.now in
    let v = tree_of c.args.value.now in
    let n = c.in-Some.steps in
    let less : c.args.walk.steps ≡ suc n = omega (arith, c.in-Some.ensures) in
    gap_before root (view c.args.schema.now) r v c.args.walk.steps n _ less c.in_ok-schema.ensures
    (by_kind root (gap root n) r v (gap_of c.in-Some-2.lack) (ap (option_map gap_of) (sym c.in-Some-2.is) ∙ c.in_ok-lack.ensures))

pub lack_in-returns-in-Some-3 : goal.lack_in-returns-in-Some-3
lack_in-returns-in-Some-3 t c =
    let root = view c.args.walk.whole.now.root.now in
    let r = view c.in_ok-schema.schema.now in
    let v = tree_of c.args.value.now in
    let n = c.in-Some.steps in
    let less : c.args.walk.steps ≡ suc n = omega (arith, c.in-Some.ensures) in
    let listed : members_of c.as_slice-members.result.now ≡ members_in v
    = ap members_of c.as_slice-members.ensures.value ∙ c.in_ok-listed.ensures.listed in
    gap_before root (view c.args.schema.now) r v c.args.walk.steps n _ less c.in_ok-schema.ensures
    (by_tag root (gap root n) r v (gap_of c.in-Some-3.lack) (ap (option_map gap_of) (sym c.in_default-2.is) ∙ c.in_ok-lack.ensures)
    (ap (option_map gap_of) (sym c.in-Some-3.is) ∙ (c.in_ok-lack-2.ensures ∙ ap (member_gap 1 (tag_gap root) r) listed)))

pub lack_in-returns-in-Some-4 : goal.lack_in-returns-in-Some-4
lack_in-returns-in-Some-4 t c =
    let root = view c.args.walk.whole.now.root.now in
    let r = view c.in_ok-schema.schema.now in
    let v = tree_of c.args.value.now in
    let n = c.in-Some.steps in
    let less : c.args.walk.steps ≡ suc n = omega (arith, c.in-Some.ensures) in
    let listed : members_of c.as_slice-members.result.now ≡ members_in v
    = ap members_of c.as_slice-members.ensures.value ∙ c.in_ok-listed.ensures.listed in
    gap_before root (view c.args.schema.now) r v c.args.walk.steps n _ less c.in_ok-schema.ensures
    (by_other root (gap root n) r v (gap_of c.in-Some-4.lack) (ap (option_map gap_of) (sym c.in_default-2.is) ∙ c.in_ok-lack.ensures)
    (ap (option_map gap_of) (sym c.in_default-3.is) ∙ (c.in_ok-lack-2.ensures ∙ ap (member_gap 1 (tag_gap root) r) listed))
    (ap (option_map gap_of) (sym c.in-Some-4.is) ∙ c.in_ok-lack-3.ensures))

pub lack_in-part_lack-requires : goal.lack_in-part_lack-requires
lack_in-part_lack-requires t c =
    let fewer : 3 * c.in-Some.steps + 2 < 3 * c.args.walk.steps = omega (arith, c.in-Some.ensures) in
    search rules

pub lack_in-returns : goal.lack_in-returns
lack_in-returns t c =
    let root = view c.args.walk.whole.now.root.now in
    let r = view c.in_ok-schema.schema.now in
    let v = tree_of c.args.value.now in
    let n = c.in-Some.steps in
    let less : c.args.walk.steps ≡ suc n = omega (arith, c.in-Some.ensures) in
    let listed : members_of c.as_slice-members.result.now ≡ members_in v
    = ap members_of c.as_slice-members.ensures.value ∙ c.in_ok-listed.ensures.listed in
    subst (λ x. IfOk c.part_lack.result (λ o. option_map gap_of o ≡ x))
    (gap_before root (view c.args.schema.now) r v c.args.walk.steps n _ less c.in_ok-schema.ensures
    (by_part root (gap root n) r v _ (ap (option_map gap_of) (sym c.in_default-2.is) ∙ c.in_ok-lack.ensures)
    (ap (option_map gap_of) (sym c.in_default-3.is) ∙ (c.in_ok-lack-2.ensures ∙ ap (member_gap 1 (tag_gap root) r) listed))
    (ap (option_map gap_of) (sym c.in_default-4.is) ∙ c.in_ok-lack-3.ensures) (ap (member_gap 3 (gap root n) r) listed)))
    c.part_lack.ensures

pub part_lack-returns-in-Some : goal.part_lack-returns-in-Some
part_lack-returns-in-Some t c =
    let s = view c.args.schema.now in
    let f = gap (view c.args.walk.whole.now.root.now) c.args.walk.steps in
    first_stop (λ (e : MemberView). gap_at 3 f s (chars e.key.now) (tree_of e.value)) (λ es. member_gap 3 f s (members_of es))
    c.args.members.now c.loop-member.member-index c.member-item.result (gap_of c.in-Some.lack) refl c.loop-member-test.true c.member-item.is
    (ap (option_map gap_of) (sym c.in-Some.is) ∙ c.in_ok-lack.ensures) c.loop-member.invariant

pub part_lack-loop-member-preserved : goal.part_lack-loop-member-preserved
part_lack-loop-member-preserved t c =
    let s = view c.args.schema.now in
    let f = gap (view c.args.walk.whole.now.root.now) c.args.walk.steps in
    first_next (λ (e : MemberView). gap_at 3 f s (chars e.key.now) (tree_of e.value)) (λ es. member_gap 3 f s (members_of es))
    c.args.members.now c.loop-member.member-index c.member-item.result refl c.loop-member-test.true c.member-item.is
    (ap (option_map gap_of) (sym c.in_default.is) ∙ c.in_ok-lack.ensures) c.loop-member.invariant

pub part_lack-returns : goal.part_lack-returns
part_lack-returns t c =
    let s = view c.args.schema.now in
    let f = gap (view c.args.walk.whole.now.root.now) c.args.walk.steps in
    sym (turn_end (λ es. member_gap 3 f s (members_of es)) c.args.members.now c.loop-member.member-index None c.loop-member-test.false refl
    c.loop-member.invariant)

pub part_lack_at-lack_in-requires : goal.part_lack_at-lack_in-requires
part_lack_at-lack_in-requires t c =
    let fewer : 3 * c.args.walk.steps < 3 * c.args.walk.steps + 1 = omega arith in
    search rules
