use Rattle.std.proofs.Common.{ap}
use Rattle.text_iregexp.specs.PatternTexts.{unless_form}
use Rattle.text_iregexp.proofs.CaseTexts.{holds_negated, holds_plain}
use Rattle.text_iregexp.proofs.cases.Look.holds.Goals as goal

pub returns-then-self-clause-same : goal.returns-then-self-clause-same
returns-then-self-clause-same c = ap (unless_form c.args.self.now.negated) c.matches_within.ensures.same

pub returns-then-self-clause-holds : goal.returns-then-self-clause-holds
returns-then-self-clause-holds c =
    holds_negated c.args.self.now.negated c.in_ok-found.found _ _ c.if-self.true c.in_ok-found.ensures.matched

pub returns-clause-same : goal.returns-clause-same
returns-clause-same c = ap (unless_form c.args.self.now.negated) c.matches_within.ensures.same

pub returns-clause-holds : goal.returns-clause-holds
returns-clause-holds c =
    holds_plain c.args.self.now.negated c.in_ok-found.found _ _ c.if-self.false c.in_ok-found.ensures.matched
