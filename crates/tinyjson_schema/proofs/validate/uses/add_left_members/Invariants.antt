use Rattle.std.proofs.Common.{◌≡◌, ◌++◌, drop, map}
use Rattle.tinyjson.specs.View.{view}
use Rattle.tinyjson_view.specs.Views.{members_of}
use Rattle.tinyjson_schema.specs.Evaluated.{Answers}
use Rattle.tinyjson_schema.specs.Every.{left_members}
use Rattle.tinyjson_schema.specs.Sources.{sources_evaluate}
use Rattle.tinyjson_schema.specs.Steps.{use_of}
use Rattle.tinyjson_schema.proofs.validate.uses.add_left_members.Given as goal

abbrev pub invariant-loop-member : goal.invariant-loop-member
invariant-loop-member l = (g : Answers) →
    map use_of l.pending.items ++ left_members (sources_evaluate g l.sources) (view l.rest.schema.now)
    (members_of (drop l.member-index l.members))
    ≡ map use_of l.initial.pending.items ++ left_members (sources_evaluate g l.sources) (view l.rest.schema.now) (members_of l.members)
