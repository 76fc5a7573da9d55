use Rattle.std.proofs.Common.{◌≡◌, ◌≤◌, length}
use Rattle.text_ecma_regexp.specs.Regex.{captures, captures_from}
use Rattle.text_ecma_regexp.proofs.captures.next_capture.Given as goal

abbrev pub invariant-loop-c : goal.invariant-loop-c
invariant-loop-c l = (captures l.text ≡ captures_from l.escaped l.inside l.rest) × (length l.rest ≤ length l.text)

abbrev pub decreases-loop-c : goal.decreases-loop-c
decreases-loop-c l = length l.rest
