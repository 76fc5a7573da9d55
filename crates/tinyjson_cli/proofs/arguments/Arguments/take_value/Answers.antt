use Rattle.std.proofs.Common.{arith}
use Rattle.std.proofs.lemmas.Grind.{common_steps}
use Rattle.tinyjson_cli.specs.Arguments.{nothing}
use Rattle.tinyjson_cli.proofs.Joining.{join_nothing, value_none}
use Rattle.tinyjson_cli.proofs.arguments.Arguments.take_value.Goals as goal

pub returns-then-is_empty : goal.returns-then-is_empty
returns-then-is_empty c = (nothing, value_none c.args.taken c.args.letter c.args.rest.now (grind (arith, common_steps)), join_nothing _)
