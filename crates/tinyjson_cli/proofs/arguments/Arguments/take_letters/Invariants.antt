use Rattle.std.proofs.Common.{◌≡◌, drop}
use Rattle.tinyjson_cli.specs.Arguments.{Given, given_of, join, and_word, letters_give}
use Rattle.tinyjson_cli.proofs.arguments.Arguments.take_letters.Given as goal

abbrev pub invariant-loop-at : goal.invariant-loop-at
invariant-loop-at l = (a : Given) × (given_of l.self ≡ join (given_of l.initial.self) a)
    × (letters_give l.known l.word l.letters ≡ and_word a (letters_give l.known l.word (drop l.at l.letters)))
