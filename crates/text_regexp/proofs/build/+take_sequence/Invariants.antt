use Rattle.text_regexp.proofs.build.+take_sequence.Given as goal

abbrev pub decreases-take_sequence : goal.decreases-take_sequence
decreases-take_sequence l = l.count
