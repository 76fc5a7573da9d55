use Rattle.std.proofs.Common.{◌≡◌, length}
use Rattle.text_iregexp.specs.Patterns.{is_among}
use Rattle.text_iregexp.specs.PatternFronts.{names_of}
use Rattle.text_iregexp.proofs.names.is_among.Given as goal

abbrev pub invariant-loop-first : goal.invariant-loop-first
invariant-loop-first l = is_among (names_of l.rest) l.wanted ≡ is_among (names_of l.names) l.wanted

abbrev pub decreases-loop-first : goal.decreases-loop-first
decreases-loop-first l = length l.rest
