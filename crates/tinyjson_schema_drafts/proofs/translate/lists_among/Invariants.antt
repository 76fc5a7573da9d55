use Rattle.std.proofs.Common.{◌≡◌, ◌≤◌, drop, length}
use Rattle.tinyjson.specs.View.{members_view, members_listed}
use Rattle.tinyjson_schema_drafts.specs.Translated.{lists_among}
use Rattle.tinyjson_schema_drafts.proofs.translate.lists_among.Given as goal

abbrev pub invariant-loop-left : goal.invariant-loop-left
invariant-loop-left l = (l.left ≤ length l.members) × (members_view l.lists.entries ≡ lists_among (members_listed (drop l.left l.members)))

abbrev pub decreases-loop-left : goal.decreases-loop-left
decreases-loop-left l = l.left
