use Rattle.std.proofs.Common.{refl, ap, ◌∙◌, subst, sym}
use Rattle.text_regexp.specs.declared.expression.Expression.{Expression}
use Rattle.text_iregexp.specs.PatternMachine.{Finishes}
use Rattle.text_iregexp.proofs.OutermostCases.{case_ended}
use Rattle.text_iregexp.proofs.outermost.Outermost.end_case.Goals as goal

pub returns : goal.returns
returns c =
    case_ended c.args.self.now _ _
    (subst (λ (x : Expression). Finishes c.args.self.now.here x) (sym c.new-root.ensures) c.in_ok-root.ensures)
    c.replace-looks.ensures.value
    c.in_ok-push.ensures.items (ap (λ v. v.items) c.replace-looks.ensures.after ∙ c.new.ensures.items) refl c.new-2.ensures
