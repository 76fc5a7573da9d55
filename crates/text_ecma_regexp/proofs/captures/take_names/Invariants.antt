use Rattle.std.proofs.Common.{◌≡◌, ◌≤◌, ◌++◌, length, take}
use Rattle.text_ecma_regexp.specs.Regex.{captures, names}
use Rattle.text_ecma_regexp.specs.Scan.{texts}
use Rattle.text_ecma_regexp.proofs.captures.take_names.Given as goal

abbrev pub invariant-loop-more : goal.invariant-loop-more
invariant-loop-more l = (names (captures l.text) ≡ texts (take l.named l.taken) ++ names (captures l.rest))
    × ((l.named ≤ 128) × (length l.taken ≡ 128))

abbrev pub decreases-loop-more : goal.decreases-loop-more
decreases-loop-more l = length l.rest
