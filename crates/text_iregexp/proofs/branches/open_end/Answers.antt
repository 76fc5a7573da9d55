use Rattle.std.proofs.Common.{true, [], sym, subst}
use Rattle.text_regexp.specs.Building.{Means}
use Rattle.text_regexp.specs.Forms.{class}
use Rattle.text_iregexp.specs.PatternMachine.{open_form}
use Rattle.text_regexp.proofs.Callers.{ok_as}
use Rattle.text_iregexp.proofs.branches.open_end.Goals as goal

pub returns : goal.returns
returns c =
    ok_as c.star.result _ _ c.star.ensures
    (λ n h. subst (λ b. Means n (open_form b)) (sym c.if-closed.false)
    (h (class true []) (subst (λ is. Means c.one_of.result (class true is)) c.new.ensures.items c.one_of.ensures)))
