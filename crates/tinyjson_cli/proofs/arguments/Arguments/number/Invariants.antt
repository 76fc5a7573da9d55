use Rattle.std.proofs.Common.{◌≡◌, None, drop}
use Rattle.tinyjson_cli.specs.Arguments.{last_number}
use Rattle.tinyjson_cli.proofs.arguments.Arguments.number.Given as goal

abbrev pub invariant-loop-number : goal.invariant-loop-number
invariant-loop-number l =
    last_number l.letter None l.self.numbers.items ≡ last_number l.letter l.last (drop l.number-index l.number-items)
