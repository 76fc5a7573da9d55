use Rattle.std.proofs.Common.{ap, sym, ◌∙◌, option_map, arith}
use Rattle.std.proofs.lemmas.Grind.{common_steps}
use Rattle.tinyjson_cli.specs.Arguments.{by_name, given_of, nothing, flag, name_gives}
use Rattle.tinyjson_cli.proofs.Joining.{join_nothing, name_value, name_flag, no_memory}
use Rattle.tinyjson_cli.proofs.arguments.Arguments.take_name.Goals as goal

pub returns-then-is_empty : goal.returns-then-is_empty
returns-then-is_empty c = (
  nothing,
  ap (name_gives c.args.word.now) (sym c.with_name.ensures ∙ ap (option_map (λ r. (r.0, r.1.now))) c.in-Some.is)
      ∙ name_value _ c.in-Some.option _ _ c.in-Some-takes.is (grind (arith, common_steps)),
  join_nothing _,
)

pub returns : goal.returns
returns c = (
  flag c.in-Some.option.letter,
  ap (name_gives c.args.word.now) (sym c.with_name.ensures ∙ ap (option_map (λ r. (r.0, r.1.now))) c.in-Some.is)
      ∙ name_flag _ c.in-Some.option _ c.in_default-takes.is (grind (arith, common_steps)),
  c.in_ok-add_flag.ensures,
)

pub returns-in_err-add_flag : goal.returns-in_err-add_flag
returns-in_err-add_flag c =
    no_memory (name_gives c.args.word.now (by_name c.args.known.now c.args.text.now)) (given_of c.args.self.now) (given_of c.add_flag.new.self) c.from_residual.result
    c.from_residual.ensures.1
