use Rattle.text_iregexp.proofs.PatternBranches.{level_cut, part_ended}
use Rattle.text_iregexp.proofs.branches.Branches.end_part.Goals as goal

pub returns-clause-part : goal.returns-clause-part
returns-clause-part c =
    part_ended c.args.self.now c.cut_last.new.self c.push.new.self.items c.in_ok-node.node c.in_ok-open_end-2.field-0
    c.in_ok-open_end.field-0 c.in_ok-behind.behind c.in_ok-part.part
    (level_cut c.args.self.now.here c.cut_first.new.self c.cut_last.new.self c.args.self.now.starts c.args.self.now.ends c.cut_first.ensures
    c.cut_last.ensures) c.in_ok-node.ensures c.in_ok-open_end.ensures c.in_ok-behind.ensures
    c.in_ok-open_end-2.ensures c.in_ok-part.ensures c.in_ok-push.ensures.items
