use Rattle.std.proofs.Common.{refl}
use Rattle.text_iregexp.specs.PatternFronts.{mark_of}
use Rattle.text_iregexp.proofs.OutermostCases.{other_ended, other_taken, out_last}
use Rattle.text_iregexp.proofs.outermost.Outermost.take_other.Goals as goal

pub end-requires : goal.end-requires
end-requires c =
    out_last c.args.self.now c.is_outermost.result c.is_last.result c.requires.state c.is_outermost.ensures c.if-last.true

pub returns-then-last : goal.returns-then-last
returns-then-last c =
    other_ended c.args.self.now _ (mark_of c.args.mark) c.is_outermost.result c.is_last.result c.is_outermost.ensures c.is_last.ensures
    c.if-last.true c.in_ok-end.ensures

pub returns : goal.returns
returns c =
    other_taken c.args.self.now _ (mark_of c.args.mark) c.is_outermost.result c.is_last.result c.take_mark.result c.is_outermost.ensures
    c.is_last.ensures c.if-last.false refl refl refl c.take_mark.ensures
