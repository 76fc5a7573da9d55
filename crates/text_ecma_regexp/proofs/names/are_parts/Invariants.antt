use Rattle.std.proofs.Common.{◌≡◌, length}
use Rattle.text_ecma_regexp.specs.Regex.{are_parts}
use Rattle.text_ecma_regexp.proofs.names.are_parts.Given as goal

abbrev pub invariant-loop-left : goal.invariant-loop-left
invariant-loop-left l = are_parts (length l.text) l.text ≡ are_parts l.left l.rest

abbrev pub decreases-loop-left : goal.decreases-loop-left
decreases-loop-left l = l.left
