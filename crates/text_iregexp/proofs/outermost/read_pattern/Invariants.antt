use Rattle.std.proofs.Common.{length}
use Rattle.text_iregexp.specs.PatternFronts.{names_of}
use Rattle.text_iregexp.proofs.PatternReading.{Reading}
use Rattle.text_iregexp.proofs.outermost.read_pattern.Given as goal

abbrev pub invariant-loop-rest : goal.invariant-loop-rest
invariant-loop-rest l = Reading l.fn.text l.rest l.outermost (names_of l.names.items)

abbrev pub decreases-loop-rest : goal.decreases-loop-rest
decreases-loop-rest l = length l.rest
