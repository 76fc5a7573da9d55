use Rattle.std.proofs.Common.{arith, length, ◌≡◌, ◌&&◌, sym, subst}
use Rattle.text_iregexp.specs.PatternMachine.{is_before}
use Rattle.text_iregexp.proofs.PatternBranches.{before_within, before_start, before_blank}
use Rattle.text_iregexp.proofs.Reading.{some_left, none_left, tested_as}
use Rattle.text_iregexp.proofs.branches.Branches.is_before.Goals as goal

pub returns-then-not-is_empty : goal.returns-then-not-is_empty
returns-then-not-is_empty c = λ s a.
    before_within c.args.self.now s c.args.starts a
    (some_left _ _ (tested_as _ _ (length c.args.self.now.outer.items) c.is_empty.ensures (omega (arith, c.args.self.now.outer.ok.0)))
    c.if-not-is_empty.true)

pub returns-then-starts : goal.returns-then-starts
returns-then-starts c = λ s a.
    subst (λ b. (c.args.self.now.starts && c.is_single.result) ≡ is_before s b) (sym c.if-starts.true)
    (before_start c.args.self.now s c.is_single.result a
    (none_left _ _ (tested_as _ _ (length c.args.self.now.outer.items) c.is_empty.ensures (omega (arith, c.args.self.now.outer.ok.0)))
    c.if-not-is_empty.false) c.is_single.ensures)

pub returns : goal.returns
returns c = λ s a.
    subst (λ b. c.is_blank.result ≡ is_before s b) (sym c.if-starts.false)
    (before_blank c.args.self.now s c.is_blank.result a
    (none_left _ _ (tested_as _ _ (length c.args.self.now.outer.items) c.is_empty.ensures (omega (arith, c.args.self.now.outer.ok.0)))
    c.if-not-is_empty.false) c.is_blank.ensures)
