use Rattle.std.proofs.Common.{◌≡◌, ◌+◌, ◌*◌, drop}
use Rattle.tinyjson.specs.View.{view}
use Rattle.tinyjson_view.specs.Views.{members_of}
use Rattle.tinyjson_schema_report.specs.Nearest.{gap, member_gap}
use Rattle.tinyjson_schema_report.proofs.nearest.+lack.Given as goal

abbrev pub decreases-lack_in : goal.decreases-lack_in
decreases-lack_in l = 3 * l.walk.steps

abbrev pub decreases-part_lack : goal.decreases-part_lack
decreases-part_lack l = 3 * l.walk.steps + 2

abbrev pub decreases-part_lack_at : goal.decreases-part_lack_at
decreases-part_lack_at l = 3 * l.walk.steps + 1

abbrev pub invariant-part_lack-loop-member : goal.invariant-part_lack-loop-member
invariant-part_lack-loop-member l =
    member_gap 3 (gap (view l.walk.whole.now.root.now) l.walk.steps) (view l.schema) (members_of (drop l.member-index l.members))
    ≡ member_gap 3 (gap (view l.walk.whole.now.root.now) l.walk.steps) (view l.schema) (members_of l.members)
