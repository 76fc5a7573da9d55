use Rattle.std.proofs.Common.{length}
use Rattle.text_iregexp.proofs.Reading.{Reading}
use Rattle.text_iregexp.proofs.reader.read.Given as goal

abbrev pub invariant-loop-rest : goal.invariant-loop-rest
invariant-loop-rest l = Reading l.fn.text l.rest l.here l.outer.items

abbrev pub decreases-loop-rest : goal.decreases-loop-rest
decreases-loop-rest l = length l.rest
