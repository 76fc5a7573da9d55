use Rattle.std.proofs.Common.{◌≡◌, length}
use Rattle.text_categories.specs.Names.{is_name}
use Rattle.text_categories.proofs.names.is_name.Given as goal

abbrev pub invariant-loop-rest : goal.invariant-loop-rest
invariant-loop-rest l = is_name l.rest l.left ≡ is_name l.text l.name

abbrev pub decreases-loop-rest : goal.decreases-loop-rest
decreases-loop-rest l = length l.rest
