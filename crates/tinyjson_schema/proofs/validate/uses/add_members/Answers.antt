use Rattle.std.proofs.Common.{refl}
use Rattle.tinyjson.specs.View.{view}
use Rattle.tinyjson_view.specs.Views.{tree_of, members_of}
use Rattle.std.specs.Str.{chars}
use Rattle.tinyjson_schema.specs.Every.{uses_of_member, member_uses}
use Rattle.tinyjson_schema.proofs.Adding.{gather_next, gather_end}
use Rattle.tinyjson_schema.proofs.Deep.{raised}
use Rattle.tinyjson_schema.proofs.validate.uses.add_members.Goals as goal

pub loop-member-preserved : goal.loop-member-preserved
loop-member-preserved c =
    let s = view c.args.here.now.schema.now in
    gather_next (λ xs. member_uses s (members_of xs)) c.args.members.now c.loop-member.member-index _ c.member-item.result _ _
    (uses_of_member s (chars c.member-item.result.key.now) (tree_of c.member-item.result.value))
    c.loop-member-test.true c.member-item.is refl c.in_ok-add_member.ensures c.loop-member.invariant

pub returns : goal.returns
returns c = gather_end (λ xs. member_uses (view c.args.here.now.schema.now) (members_of xs)) c.args.members.now
    c.loop-member.member-index _ _ c.loop-member-test.false refl c.loop-member.invariant

pub returns-in_err-add_member : goal.returns-in_err-add_member
returns-in_err-add_member c =
    raised _ _ c.in_err-add_member.field-0.0 c.from_residual.result c.from_residual.ensures.1 c.in_err-add_member.ensures
