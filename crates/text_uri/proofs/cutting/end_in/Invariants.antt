use Rattle.text_uri.proofs.Cuts.{IsWide}
use Rattle.text_uri.proofs.cutting.end_in.Given as goal

abbrev pub invariant-loop-i : goal.invariant-loop-i
invariant-loop-i g l = IsWide (g.E.Ends.ends l.end) l.bytes l.i
