use Rattle.std.proofs.Common.{◌≡◌, length}
use Rattle.text_ecma_regexp.specs.Regex.{are_distinct}
use Rattle.text_ecma_regexp.specs.Scan.{texts}
use Rattle.text_ecma_regexp.proofs.names.are_distinct.Given as goal

abbrev pub invariant-loop-rest : goal.invariant-loop-rest
invariant-loop-rest l = are_distinct (texts l.names) ≡ are_distinct (texts l.rest)

abbrev pub decreases-loop-rest : goal.decreases-loop-rest
decreases-loop-rest l = length l.rest
