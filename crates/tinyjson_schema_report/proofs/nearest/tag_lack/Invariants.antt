use Rattle.std.proofs.Common.{◌≡◌, drop}
use Rattle.tinyjson.specs.View.{view}
use Rattle.tinyjson_view.specs.Views.{members_of}
use Rattle.tinyjson_schema_report.specs.Nearest.{member_gap, tag_gap}
use Rattle.tinyjson_schema_report.proofs.nearest.tag_lack.Given as goal

abbrev pub invariant-loop-member : goal.invariant-loop-member
invariant-loop-member l =
    member_gap 1 (tag_gap (view l.fn.walk.whole.now.root.now)) (view l.schema) (members_of (drop l.member-index l.members))
    ≡ member_gap 1 (tag_gap (view l.fn.walk.whole.now.root.now)) (view l.schema) (members_of l.members)
