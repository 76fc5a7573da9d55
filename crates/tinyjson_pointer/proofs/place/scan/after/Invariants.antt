use Rattle.std.proofs.Common.{◌≡◌, ◌≤◌, ◌+◌, length}
use denote.Text.{Utf8}
use denote.Shadow.{shadow}
use Rattle.std.specs.Str.{chars}
use Rattle.tinyjson_pointer.specs.declared.place.scan.Scan.TheVariants.{Outside}
use Rattle.tinyjson_pointer.specs.private.Scan.{after, level_of}
use Rattle.tinyjson_pointer.proofs.place.scan.after.Given as goal

abbrev pub invariant-loop-c : goal.invariant-loop-c
invariant-loop-c l = shadow (Utf8 l.rest)
    × (after l.stop l.scan (chars l.rest) ≡ after l.stop (Outside 0) (chars l.fn.text))
    × (level_of l.scan + length l.rest ≤ length l.fn.text)

abbrev pub decreases-loop-c : goal.decreases-loop-c
decreases-loop-c l = length l.rest
