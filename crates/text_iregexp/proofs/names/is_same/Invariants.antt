use Rattle.std.proofs.Common.{◌≡◌, length}
use Rattle.text_iregexp.specs.Patterns.{is_same}
use Rattle.text_iregexp.proofs.names.is_same.Given as goal

abbrev pub invariant-loop-one : goal.invariant-loop-one
invariant-loop-one l = is_same l.left l.right ≡ is_same l.first l.second

abbrev pub decreases-loop-one : goal.decreases-loop-one
decreases-loop-one l = length l.left
