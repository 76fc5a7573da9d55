use Rattle.std.proofs.Common.{◌≡◌, length}
use Rattle.tinyjson_path_query.specs.Fronts.{behind_word}
use Rattle.tinyjson_path_query.proofs.lexical.behind_word.Given as goal

abbrev pub invariant-loop-letter : goal.invariant-loop-letter
invariant-loop-letter l = behind_word l.fn.word l.fn.text ≡ behind_word l.letters l.rest

abbrev pub decreases-loop-letter : goal.decreases-loop-letter
decreases-loop-letter l = length l.letters
