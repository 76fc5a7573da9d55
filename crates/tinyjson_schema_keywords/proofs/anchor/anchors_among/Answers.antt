use Rattle.std.proofs.Common.{[]}
use Rattle.tinyjson_schema_keywords.proofs.Naming.{member_gathered}
use Rattle.tinyjson_schema_keywords.proofs.anchor.anchors_among.Goals as goal

pub loop-member-preserved : goal.loop-member-preserved
loop-member-preserved c =
    member_gathered c.args.members.now c.loop-member.member-index [] c.loop-member.anchors.items c.loop-member.invariant
    c.member-item.result c.gather.new.anchors.items c.loop-member-test.true c.member-item.is c.in_ok-gather.ensures
