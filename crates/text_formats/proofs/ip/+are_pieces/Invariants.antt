use Rattle.text_formats.proofs.ip.+are_pieces.Given as goal

abbrev pub decreases-are_pieces : goal.decreases-are_pieces
decreases-are_pieces l = l.left
