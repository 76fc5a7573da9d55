use Rattle.std.proofs.Common.{◌≡◌, drop}
use Rattle.tinyjson_document.specs.Replaying.{put_members}
use Rattle.tinyjson_view.specs.Views.{members_of}
use Rattle.tinyjson_patch.specs.private.Edited.{members_tree}
use Rattle.tinyjson_patch.proofs.edit.expand.kept_members.Given as goal

abbrev pub invariant-loop-view : goal.invariant-loop-view
invariant-loop-view l = put_members (members_tree l.members.entries) (members_of (drop l.view-index l.view-items)) ≡ members_of l.fn.views.items
