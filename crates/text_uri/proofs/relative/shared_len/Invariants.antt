use Rattle.text_uri.proofs.Sharing.{IsShared}
use Rattle.text_uri.proofs.relative.shared_len.Given as goal

abbrev pub invariant-loop-at : goal.invariant-loop-at
invariant-loop-at l = IsShared l.base l.target l.at l.shared
