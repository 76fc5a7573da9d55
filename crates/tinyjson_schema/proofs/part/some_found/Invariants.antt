use Rattle.std.proofs.Common.{◌≡◌, drop}
use Rattle.std.specs.Str.{chars}
use Rattle.tinyjson.specs.View.{members_listed}
use Rattle.tinyjson_schema.specs.Parts.{some_found}
use Rattle.tinyjson_schema.proofs.part.some_found.Given as goal

abbrev pub invariant-loop-pattern : goal.invariant-loop-pattern
invariant-loop-pattern l = some_found (members_listed (drop l.pattern-index l.patterns)) (chars l.key)
    ≡ some_found (members_listed l.patterns) (chars l.key)
