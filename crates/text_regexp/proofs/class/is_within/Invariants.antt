use Rattle.std.proofs.Common.{◌≡◌, drop}
use Rattle.text_regexp.specs.Forms.{is_within}
use Rattle.text_regexp.proofs.class.is_within.Given as goal

abbrev pub invariant-loop-item : goal.invariant-loop-item
invariant-loop-item l = is_within (drop l.item-index l.items) l.c ≡ is_within l.items l.c
