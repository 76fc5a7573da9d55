use Rattle.tinyjson.proofs.value.JsonValue.try_clone.Given as goal

abbrev pub decreases-loop-partial : goal.decreases-loop-partial
decreases-loop-partial l = goal.left-loop-partial l
