use Rattle.std.proofs.Common.{◌≡◌, true, length}
use Rattle.text_formats.specs.Host.{ends_with_digits}
use Rattle.text_formats.proofs.host.ends_with_digits.Given as goal

abbrev pub invariant-loop-c : goal.invariant-loop-c
invariant-loop-c l = ends_with_digits true l.text ≡ ends_with_digits l.digits l.rest

abbrev pub decreases-loop-c : goal.decreases-loop-c
decreases-loop-c l = length l.rest
