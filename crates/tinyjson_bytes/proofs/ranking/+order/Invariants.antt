use Rattle.tinyjson_bytes.proofs.ranking.+order.Given as goal

abbrev pub decreases-order : goal.decreases-order
decreases-order g l = l.passes

abbrev pub invariant-loop-tied : goal.invariant-loop-tied
invariant-loop-tied g l = (goal.iterator-loop-tied g).can_next l.tied-iterator × (goal.iterator-loop-tied g).is_finite l.tied-iterator
