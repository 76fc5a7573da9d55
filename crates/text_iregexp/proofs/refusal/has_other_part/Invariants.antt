use Rattle.std.proofs.Common.{◌≡◌, length}
use Rattle.text_iregexp.specs.PatternReading.{has_other_part}
use Rattle.text_iregexp.proofs.refusal.has_other_part.Given as goal

abbrev pub invariant-loop-first : goal.invariant-loop-first
invariant-loop-first l = has_other_part l.rest ≡ has_other_part l.text

abbrev pub decreases-loop-first : goal.decreases-loop-first
decreases-loop-first l = length l.rest
