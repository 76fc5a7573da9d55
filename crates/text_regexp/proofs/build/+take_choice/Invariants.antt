use Rattle.text_regexp.proofs.build.+take_choice.Given as goal

abbrev pub decreases-take_choice : goal.decreases-take_choice
decreases-take_choice l = l.count
