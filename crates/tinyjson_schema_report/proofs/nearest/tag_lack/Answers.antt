use Rattle.std.proofs.Common.{None, refl, sym, ap, ◌∙◌, option_map}
use Rattle.std.specs.Str.{chars}
use Rattle.tinyjson.specs.View.{view}
use Rattle.tinyjson_view.specs.Views.{tree_of, members_of}
use Rattle.tinyjson_view.specs.declared.view.MemberView.{MemberView}
use Rattle.tinyjson_schema_keywords.proofs.Callers.{turn_end}
use Rattle.tinyjson_schema_report.specs.Nearest.{gap_at, gap_of, member_gap, tag_gap}
use Rattle.tinyjson_schema_report.proofs.Nearing.{first_stop, first_next}
use Rattle.tinyjson_schema_report.proofs.nearest.tag_lack.Goals as goal

pub returns-in-Some : goal.returns-in-Some
returns-in-Some c =
    let s = view c.args.schema.now in
    let f = tag_gap (view c.args.walk.whole.now.root.now) in
    first_stop (λ (e : MemberView). gap_at 1 f s (chars e.key.now) (tree_of e.value)) (λ es. member_gap 1 f s (members_of es))
    c.args.members.now c.loop-member.member-index c.member-item.result (gap_of c.in-Some.lack) refl c.loop-member-test.true c.member-item.is
    (ap (option_map gap_of) (sym c.in-Some.is) ∙ c.in_ok-lack.ensures) c.loop-member.invariant

pub loop-member-preserved : goal.loop-member-preserved
loop-member-preserved c =
    let s = view c.args.schema.now in
    let f = tag_gap (view c.args.walk.whole.now.root.now) in
    first_next (λ (e : MemberView). gap_at 1 f s (chars e.key.now) (tree_of e.value)) (λ es. member_gap 1 f s (members_of es))
    c.args.members.now c.loop-member.member-index c.member-item.result refl c.loop-member-test.true c.member-item.is
    (ap (option_map gap_of) (sym c.in_default.is) ∙ c.in_ok-lack.ensures) c.loop-member.invariant

pub returns : goal.returns
returns c =
    let s = view c.args.schema.now in
    let f = tag_gap (view c.args.walk.whole.now.root.now) in
    sym (turn_end (λ es. member_gap 1 f s (members_of es)) c.args.members.now c.loop-member.member-index None c.loop-member-test.false refl
    c.loop-member.invariant)
