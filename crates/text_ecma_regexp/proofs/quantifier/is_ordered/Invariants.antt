use Rattle.std.proofs.Common.{◌≡◌, length}
use Rattle.text_ecma_regexp.specs.Scan.{ordered}
use Rattle.text_ecma_regexp.proofs.quantifier.is_ordered.Given as goal

abbrev pub invariant-loop-c : goal.invariant-loop-c
invariant-loop-c l = ordered l.fn.least l.fn.most ≡ ordered l.least l.most

abbrev pub decreases-loop-c : goal.decreases-loop-c
decreases-loop-c l = length l.least
