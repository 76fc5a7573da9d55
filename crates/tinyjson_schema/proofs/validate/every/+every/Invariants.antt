use Rattle.std.proofs.Common.{◌≡◌, ◌++◌, ◌+◌, ◌*◌, drop, map, take}
use Rattle.tinyjson_schema.specs.Evaluated.{Answers}
use Rattle.tinyjson_schema.specs.Every.{spot_of, spread, every}
use Rattle.tinyjson_schema.specs.Steps.{placed, use_of}
use Rattle.tinyjson_schema.specs.Valid.{root_of}
use Rattle.tinyjson_schema.proofs.validate.every.+every.Given as goal

abbrev pub decreases-add_violations : goal.decreases-add_violations
decreases-add_violations l = 2 * l.walk.steps

abbrev pub decreases-add_further : goal.decreases-add_further
decreases-add_further l = 2 * l.walk.steps + 1

abbrev pub invariant-add_further-loop-used : goal.invariant-add_further-loop-used
invariant-add_further-loop-used l = (g : Answers) →
    take l.limit (map spot_of l.found.items ++ map (placed l.path)
    (spread (λ u. every (root_of l.walk) l.walk.steps g u.schema u.value) (map use_of (drop l.used-index l.pending))))
    ≡ take l.limit (map spot_of l.initial.found.items ++ map (placed l.path)
    (spread (λ u. every (root_of l.walk) l.walk.steps g u.schema u.value) (map use_of l.pending)))
