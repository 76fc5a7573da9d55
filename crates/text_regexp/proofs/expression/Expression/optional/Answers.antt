use Rattle.text_regexp.specs.Forms.{empty, alternation}
use Rattle.text_regexp.proofs.Building.{ok_as, means_as, optional_same}
use Rattle.text_regexp.proofs.expression.Expression.optional.Goals as goal

pub returns : goal.returns
returns c = ok_as c.alternation.result _ _ c.alternation.ensures
    (λ n h f m. means_as n (alternation empty f) _ (h empty f c.empty.ensures m) (optional_same f))
