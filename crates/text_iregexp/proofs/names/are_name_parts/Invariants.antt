use Rattle.std.proofs.Common.{◌≡◌, length}
use Rattle.text_iregexp.specs.Patterns.{are_name_parts}
use Rattle.text_iregexp.proofs.names.are_name_parts.Given as goal

abbrev pub invariant-loop-first : goal.invariant-loop-first
invariant-loop-first l = are_name_parts l.rest ≡ are_name_parts l.text

abbrev pub decreases-loop-first : goal.decreases-loop-first
decreases-loop-first l = length l.rest
