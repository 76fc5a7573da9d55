use Rattle.std.proofs.Common.{◌∙◌, ap, refl, sym, subst}
use Rattle.text_regexp.specs.Building.{AllMean}
use Rattle.text_iregexp.proofs.Levels.{barred_stands}
use Rattle.text_iregexp.proofs.reader.Level.end_branch.Goals as goal

pub returns-clause-read : goal.returns-clause-read
returns-clause-read c = λ l s.
    barred_stands c.settle.new.self _ c.in_ok-sequence_of.field-0 l (c.in_ok-settle.ensures.read l s)
    (λ fs a. c.in_ok-sequence_of.ensures fs (subst (λ v. AllMean v.items fs) (sym c.replace-pieces.ensures.value) a))
    c.in_ok-push.ensures.items (ap (λ v. v.items) c.replace-pieces.ensures.after ∙ c.new.ensures.items) refl
