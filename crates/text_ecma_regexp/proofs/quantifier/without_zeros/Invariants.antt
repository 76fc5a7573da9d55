use Rattle.std.proofs.Common.{◌≡◌, length}
use Rattle.text_ecma_regexp.specs.Scan.{without_zeros}
use Rattle.text_ecma_regexp.proofs.quantifier.without_zeros.Given as goal

abbrev pub invariant-loop-rest : goal.invariant-loop-rest
invariant-loop-rest l = without_zeros l.digits ≡ without_zeros l.rest

abbrev pub decreases-loop-rest : goal.decreases-loop-rest
decreases-loop-rest l = length l.rest
