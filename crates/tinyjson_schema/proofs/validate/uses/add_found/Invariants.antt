use Rattle.std.proofs.Common.{◌≡◌, ◌++◌, drop, map}
use Rattle.std.specs.Str.{chars}
use Rattle.tinyjson.specs.View.{view}
use Rattle.tinyjson_view.specs.Views.{members_of}
use Rattle.tinyjson_schema.specs.Every.{found_uses}
use Rattle.tinyjson_schema.specs.Steps.{use_of}
use Rattle.tinyjson_schema.proofs.validate.uses.add_found.Given as goal

abbrev pub invariant-loop-member : goal.invariant-loop-member
invariant-loop-member l =
    map use_of l.pending.items ++ found_uses (chars l.pattern) (view l.schema) (members_of (drop l.member-index l.members))
    ≡ map use_of l.initial.pending.items ++ found_uses (chars l.pattern) (view l.schema) (members_of l.members)
