use Rattle.std.proofs.Common.{◌≡◌, drop}
use Rattle.tinyjson_cli.specs.Arguments.{by_letter}
use Rattle.tinyjson_cli.proofs.arguments.with_letter.Given as goal

abbrev pub invariant-loop-option : goal.invariant-loop-option
invariant-loop-option l = by_letter l.known l.letter ≡ by_letter (drop l.option-index l.known) l.letter
