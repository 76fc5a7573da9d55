use Rattle.std.proofs.Common.{◌≡◌, length}
use Rattle.text_formats.specs.Letters.{each}
use Rattle.text_formats.specs.Scan.{passes}
use Rattle.text_formats.proofs.letters.are.Given as goal

abbrev pub invariant-loop-c : goal.invariant-loop-c
invariant-loop-c l = each (passes l.letters) l.text ≡ each (passes l.letters) l.rest

abbrev pub decreases-loop-c : goal.decreases-loop-c
decreases-loop-c l = length l.rest
