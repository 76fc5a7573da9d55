use Rattle.std.proofs.Common.{length}
use Rattle.text_formats.proofs.letters.+after_word.Given as goal

abbrev pub decreases-after_word : goal.decreases-after_word
decreases-after_word l = length l.word.now
