use Rattle.std.proofs.Common.{◌≡◌, drop}
use Rattle.tinyjson_cli.specs.Arguments.{by_name}
use Rattle.tinyjson_cli.proofs.arguments.with_name.Given as goal

abbrev pub invariant-loop-option : goal.invariant-loop-option
invariant-loop-option l = by_name l.known l.text ≡ by_name (drop l.option-index l.known) l.text
