use Rattle.std.proofs.Common.{◌≡◌, length}
use Rattle.tinyjson_path_query.specs.Refusing.{begins}
use Rattle.tinyjson_path_query.proofs.refusal.begins.Given as goal

abbrev pub invariant-loop-letter : goal.invariant-loop-letter
invariant-loop-letter l = begins l.fn.word l.fn.text ≡ begins l.letters l.rest

abbrev pub decreases-loop-letter : goal.decreases-loop-letter
decreases-loop-letter l = length l.letters
