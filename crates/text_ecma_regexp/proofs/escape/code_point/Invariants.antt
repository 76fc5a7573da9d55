use Rattle.std.proofs.Common.{◌≡◌, ◌≤◌, length}
use Rattle.text_ecma_regexp.specs.Regex.{code_point}
use Rattle.text_ecma_regexp.proofs.escape.code_point.Given as goal

abbrev pub invariant-loop-c : goal.invariant-loop-c
invariant-loop-c l = (code_point 0 l.text ≡ code_point l.n l.rest) × (l.n ≤ 1114111)

abbrev pub decreases-loop-c : goal.decreases-loop-c
decreases-loop-c l = length l.rest
