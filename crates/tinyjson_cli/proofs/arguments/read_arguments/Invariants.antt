use Rattle.std.proofs.Common.{◌≡◌, drop, map, string_bytes}
use Rattle.tinyjson_cli.specs.Arguments.{given_of, and_words, words_give}
use Rattle.tinyjson_cli.specs.declared.arguments.Next.TheVariants.{Any}
use Rattle.tinyjson_cli.proofs.arguments.read_arguments.Given as goal

abbrev pub invariant-loop-word : goal.invariant-loop-word
invariant-loop-word l =
    words_give l.known Any (map string_bytes l.words)
    ≡ and_words (given_of l.arguments) (words_give l.known l.next (map string_bytes (drop l.word-index l.words)))
