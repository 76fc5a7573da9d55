use Rattle.tinyjson_schema_assertions.proofs.Formatted.{names_begun, names_turn, names_ended}
use Rattle.tinyjson_schema_assertions.proofs.formats.formats_among.Goals as goal

pub loop-member-init : goal.loop-member-init
loop-member-init c = names_begun c.args.members.now c.new-names.result c.new-names.ensures.empty

pub loop-member-preserved : goal.loop-member-preserved
loop-member-preserved c =
    names_turn c.args.members.now c.loop-member.member-index c.loop-member.names c.gather_format.new.names c.member-item.result
    c.loop-member-test.true c.member-item.is c.in_ok-gather_format.ensures c.loop-member.invariant

pub returns : goal.returns
returns c = names_ended c.args.members.now c.loop-member.member-index c.loop-member.names c.loop-member-test.false c.loop-member.invariant
