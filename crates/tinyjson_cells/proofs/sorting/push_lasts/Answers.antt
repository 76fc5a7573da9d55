use Rattle.tinyjson_cells.proofs.Order.{lasts_next, lasts_end}
use Rattle.tinyjson_cells.proofs.sorting.push_lasts.Goals as goal

pub loop-member-preserved : goal.loop-member-preserved
loop-member-preserved c =
    lasts_next c.args.texts.now _ c.loop-member.members.items c.push_last.new.members.items c.in-Some.member.now
    c.loop-member.rest.now c.in-Some.others.now
    c.in-Some.ensures.cases.0 c.in_ok-push_last.ensures c.loop-member.invariant

pub returns : goal.returns
returns c = lasts_end c.args.texts.now _ c.loop-member.members.items c.loop-member.rest.now c.in_default.ensures.cases
    c.loop-member.invariant
