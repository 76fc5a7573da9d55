use Rattle.std.proofs.Common.{◌≡◌, map, length}
use Rattle.text_categories.specs.Names.{value_in, row}
use Rattle.text_categories.proofs.names.value_in.Given as goal

abbrev pub invariant-loop-rest : goal.invariant-loop-rest
invariant-loop-rest l = value_in (map row l.rest) l.name ≡ value_in (map row l.fn.table) l.name

abbrev pub decreases-loop-rest : goal.decreases-loop-rest
decreases-loop-rest l = length l.rest
