use Rattle.std.proofs.Common.{◌≡◌, ◌++◌, drop, map, take}
use Rattle.tinyjson_schema.specs.Every.{spot_of, at_keyword}
use Rattle.tinyjson_schema.specs.Steps.{placed}
use Rattle.tinyjson_schema.proofs.validate.every.add_places.Given as goal

abbrev pub invariant-loop-keyword : goal.invariant-loop-keyword
invariant-loop-keyword l =
    take l.limit (map spot_of l.found.items ++ map (placed l.path) (map at_keyword (drop l.keyword-index l.keywords)))
    ≡ take l.limit (map spot_of l.initial.found.items ++ map (placed l.path) (map at_keyword l.keywords))
