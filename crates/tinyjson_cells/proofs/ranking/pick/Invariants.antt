use Rattle.std.specs.List.{All, Contains}
use Rattle.tinyjson_cells.proofs.ranking.pick.Given as goal

abbrev pub invariant-loop-rank : goal.invariant-loop-rank
invariant-loop-rank l = All (Contains l.members) l.kept.items
