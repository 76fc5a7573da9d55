use Rattle.std.proofs.Common.{◌≡◌, ◌≤◌, nat_le, length}
use Rattle.text_ecma_regexp.specs.Regex.{number}
use Rattle.text_ecma_regexp.proofs.regex.is_number_to.Given as goal

abbrev pub invariant-loop-c : goal.invariant-loop-c
invariant-loop-c l = (nat_le (number 0 l.digits) l.count ≡ nat_le (number l.n l.rest) l.count) × (l.n ≤ l.count)

abbrev pub decreases-loop-c : goal.decreases-loop-c
decreases-loop-c l = length l.rest
