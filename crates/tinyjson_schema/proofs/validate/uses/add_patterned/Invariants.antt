use Rattle.std.proofs.Common.{◌≡◌, ◌++◌, drop, map}
use Rattle.tinyjson.specs.View.{members_listed}
use Rattle.tinyjson_view.specs.Views.{members_of}
use Rattle.tinyjson_schema.specs.Every.{pattern_uses}
use Rattle.tinyjson_schema.specs.Steps.{use_of}
use Rattle.tinyjson_schema.proofs.validate.uses.add_patterned.Given as goal

abbrev pub invariant-loop-pattern : goal.invariant-loop-pattern
invariant-loop-pattern l = map use_of l.pending.items ++ pattern_uses (members_listed (drop l.pattern-index l.patterns))
    (members_of l.members)
    ≡ map use_of l.initial.pending.items ++ pattern_uses (members_listed l.patterns) (members_of l.members)
