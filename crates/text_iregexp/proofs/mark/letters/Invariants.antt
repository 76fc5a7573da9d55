use Rattle.std.proofs.Common.{length}
use Rattle.text_iregexp.proofs.PatternClasses.{GoesLetters}
use Rattle.text_iregexp.proofs.mark.letters.Given as goal

abbrev pub invariant-loop-rest : goal.invariant-loop-rest
invariant-loop-rest l = GoesLetters l.fn.text l.all.items l.rest

abbrev pub decreases-loop-rest : goal.decreases-loop-rest
decreases-loop-rest l = length l.rest
