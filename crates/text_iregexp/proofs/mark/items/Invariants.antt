use Rattle.std.proofs.Common.{◌≡◌, ◌++◌, length, option_map}
use Rattle.text_iregexp.specs.Patterns.{class_items}
use Rattle.text_iregexp.proofs.mark.items.Given as goal

abbrev pub invariant-loop-first : goal.invariant-loop-first
invariant-loop-first l = class_items l.fn.letters ≡ option_map (λ is. l.all.items ++ is) (class_items l.rest)

abbrev pub decreases-loop-first : goal.decreases-loop-first
decreases-loop-first l = length l.rest
