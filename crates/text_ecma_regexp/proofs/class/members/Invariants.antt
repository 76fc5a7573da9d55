use Rattle.std.proofs.Common.{◌≡◌, length}
use Rattle.text_ecma_regexp.specs.Regex.{members}
use Rattle.text_ecma_regexp.proofs.class.members.Given as goal

abbrev pub invariant-loop-left : goal.invariant-loop-left
invariant-loop-left l = members (length l.text) l.text ≡ members l.left l.rest

abbrev pub decreases-loop-left : goal.decreases-loop-left
decreases-loop-left l = l.left
