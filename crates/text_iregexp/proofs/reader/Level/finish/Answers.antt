use Rattle.std.proofs.Common.{sym, subst}
use Rattle.text_regexp.specs.Building.{AllMean}
use Rattle.text_regexp.proofs.Callers.{ok_as}
use Rattle.text_iregexp.proofs.Levels.{finished}
use Rattle.text_iregexp.proofs.reader.Level.finish.Goals as goal

pub returns : goal.returns
returns c = ok_as c.choice_of.result _ _ c.choice_of.ensures (λ n m l s.
    finished c.end_branch.new.self n l (c.in_ok-end_branch.ensures.read l s)
    (λ fs a. m fs (subst (λ v. AllMean v.items fs) (sym c.replace-branches.ensures.value) a)))
