use Rattle.std.proofs.Common.{◌≡◌}
use denote.Text.{Utf8}
use denote.Shadow.{shadow}
use Rattle.std.specs.Str.{chars}
use Rattle.tinyjson_pointer.specs.private.Scan.{after_commas}
use Rattle.tinyjson_pointer.proofs.place.part.after_commas.Given as goal

abbrev pub invariant-loop-left : goal.invariant-loop-left
invariant-loop-left l = shadow (Utf8 l.rest) × (after_commas l.left (chars l.rest) ≡ after_commas l.fn.count (chars l.fn.text))

abbrev pub decreases-loop-left : goal.decreases-loop-left
decreases-loop-left l = l.left
