use Rattle.text_iregexp.specs.PatternFronts.{mark_of}
use Rattle.text_iregexp.proofs.OutermostCases.{case_taken, other_mark}
use Rattle.text_iregexp.proofs.outermost.Outermost.take_mark.Goals as goal

pub returns-in_default : goal.returns-in_default
returns-in_default c =
    case_taken c.args.self.now _ (mark_of c.args.mark) c.take_other.result (other_mark c.args.mark (λ p. c.in_default.not-Look p))
    c.take_other.ensures
