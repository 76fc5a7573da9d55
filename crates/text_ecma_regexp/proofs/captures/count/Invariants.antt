use Rattle.std.proofs.Common.{◌≡◌, ◌≤◌, ◌+◌, length}
use Rattle.text_ecma_regexp.specs.Regex.{captures}
use Rattle.text_ecma_regexp.proofs.captures.count.Given as goal

abbrev pub invariant-loop-more : goal.invariant-loop-more
invariant-loop-more l = (length (captures l.text) ≡ l.count + length (captures l.rest)) × (l.count + length l.rest ≤ length l.text)

abbrev pub decreases-loop-more : goal.decreases-loop-more
decreases-loop-more l = length l.rest
