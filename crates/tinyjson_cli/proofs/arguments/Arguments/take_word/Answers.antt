use Rattle.std.proofs.Common.{ap}
use Rattle.tinyjson_cli.specs.Arguments.{operand, word_gives}
use Rattle.tinyjson_cli.proofs.arguments.Arguments.take_word.Goals as goal

pub returns-in_ok-add_operand-in-Operand : goal.returns-in_ok-add_operand-in-Operand
returns-in_ok-add_operand-in-Operand c = (
  operand c.args.word.now,
  ap (λ n. word_gives c.args.known.now n c.args.word.now) c.in-Operand.is,
  c.in_ok-add_operand-in-Operand.ensures,
)
