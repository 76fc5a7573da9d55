use Rattle.std.proofs.Common.{◌++◌, ◌∙◌, ap, arith}
use Rattle.std.specs.Option.{option_to_list}
use Rattle.text_regexp.proofs.Building.{ok_as, takes_joined, takes_one}
use Rattle.text_regexp.proofs.build.+take_sequence.Goals as goal

pub returns-then-count-eq1 : goal.returns-then-count-eq1
returns-then-count-eq1 t c = takes_one c.args.parts.now.items c.pop.new.self.items c.unwrap.result c.args.count c.if-count-eq1.true
    (c.pop.ensures.items ∙ ap (λ o. c.pop.new.self.items ++ option_to_list o) c.unwrap.ensures)

pub returns : goal.returns
returns t c =
    ok_as c.concat.result _ _ c.concat.ensures
    (λ n j. takes_joined _ _ _ _ _ c.args.count _ _ n c.in_ok-right.ensures c.in_ok-left.ensures j (omega arith))
