use Rattle.std.proofs.Common.{ap, arith, map, ◌∙◌}
use Rattle.std.specs.Prelude.{unwrap_or}
use Rattle.tinyjson_cli.specs.Arguments.{given_of}
use Rattle.json_merge.proofs.Splitting.{asked}
use Rattle.json_merge.proofs.options.patches_asked.Goals as goal

pub returns : goal.returns
returns c =
    asked c.unwrap_or-count.result c.as_slice-operands.result.now (λ p. p.now) (omega (arith, c.if-count-operands.false))
    (given_of c.args.arguments.now)
    (c.unwrap_or-count.ensures ∙ ap (λ o. unwrap_or o 1) c.number.ensures) (ap (map (λ p. p.now)) c.as_slice-operands.ensures.value)
