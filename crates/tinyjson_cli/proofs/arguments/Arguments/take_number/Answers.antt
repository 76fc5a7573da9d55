use Rattle.std.proofs.Common.{ap, sym, ◌∙◌}
use Rattle.tinyjson_cli.specs.Arguments.{with_number, number_or}
use Rattle.tinyjson_cli.proofs.arguments.Arguments.take_number.Goals as goal

pub returns : goal.returns
returns c = (
  with_number c.args.letter c.in-Some.value,
  ap (number_or c.args.letter) (sym c.read_number.ensures ∙ c.in-Some.is),
  c.in_ok-add_number.ensures,
)
