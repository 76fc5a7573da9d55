use Rattle.tinyjson_output.proofs.number.+write_natural.Given as goal

abbrev pub decreases-write_natural : goal.decreases-write_natural
decreases-write_natural g l = l.number
