use Rattle.std.proofs.Common.{arith, length, refl, sym, ◌∙◌}
use Rattle.text_iregexp.proofs.Reading.{tested_as}
use Rattle.text_iregexp.proofs.OutermostCases.{look_late, look_opened}
use Rattle.text_iregexp.proofs.outermost.Outermost.open_look.Goals as goal

pub returns-then-not-is_before : goal.returns-then-not-is_before
returns-then-not-is_before c =
    look_late c.args.self.now c.args.self.now c.args.negated c.is_empty-first.result
    (tested_as _ _ (length c.args.self.now.looks.items) c.is_empty-first.ensures (omega (arith, c.args.self.now.looks.ok.0)))
    (λ h a. sym c.if-not-is_before.true ∙ c.is_before.ensures h a)

pub returns : goal.returns
returns c =
    look_opened c.args.self.now _ c.args.negated c.is_empty-first.result (sym c.is_some.ensures ∙ c.if-is_some.false)
    (tested_as _ _ (length c.args.self.now.looks.items) c.is_empty-first.ensures (omega (arith, c.args.self.now.looks.ok.0)))
    (λ h a. sym c.if-not-is_before.false ∙ c.is_before.ensures h a) refl refl refl c.new.ensures
