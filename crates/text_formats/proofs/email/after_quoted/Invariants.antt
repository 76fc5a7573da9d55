use Rattle.std.proofs.Common.{◌≡◌, length}
use Rattle.text_formats.specs.Email.{after_quoted}
use Rattle.text_formats.proofs.email.after_quoted.Given as goal

abbrev pub invariant-loop-c : goal.invariant-loop-c
invariant-loop-c l = after_quoted l.text ≡ after_quoted l.rest

abbrev pub decreases-loop-c : goal.decreases-loop-c
decreases-loop-c l = length l.rest
