use Rattle.std.proofs.Common.{◌∷◌, [], length}
use Rattle.text_iregexp.proofs.TokenFronts.{Goes}
use Rattle.text_iregexp.proofs.token.class_from.Given as goal

abbrev pub invariant-loop-next : goal.invariant-loop-next
invariant-loop-next l = Goes (l.fn.first ∷ []) l.fn.text l.items.items l.rest

abbrev pub decreases-loop-next : goal.decreases-loop-next
decreases-loop-next l = length l.rest
