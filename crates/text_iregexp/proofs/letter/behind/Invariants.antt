use Rattle.std.proofs.Common.{◌≡◌, length}
use Rattle.text_iregexp.specs.PatternFronts.{behind}
use Rattle.text_iregexp.proofs.letter.behind.Given as goal

abbrev pub invariant-loop-wanted : goal.invariant-loop-wanted
invariant-loop-wanted l = behind l.left l.rest ≡ behind l.head l.text

abbrev pub decreases-loop-wanted : goal.decreases-loop-wanted
decreases-loop-wanted l = length l.left
