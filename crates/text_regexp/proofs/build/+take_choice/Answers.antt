use Rattle.std.proofs.Common.{arith}
use Rattle.text_regexp.proofs.Building.{ok_as, chooses_joined}
use Rattle.text_regexp.proofs.build.+take_choice.Goals as goal

pub returns : goal.returns
returns t c =
    ok_as c.alternation.result _ _ c.alternation.ensures
    (λ n j. chooses_joined _ _ _ _ _ c.args.count _ _ n c.in_ok-right.ensures c.in_ok-left.ensures j (omega arith))
