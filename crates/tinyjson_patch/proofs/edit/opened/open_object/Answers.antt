use Rattle.std.specs.Str.{chars}
use Rattle.tinyjson_grammar.specs.Tree.{array, no_items}
use Rattle.tinyjson_patch.specs.private.Edited.{members_tree}
use Rattle.tinyjson_patch.proofs.Editing.Listed.{members_sorted}
use Rattle.tinyjson_patch.proofs.Editing.Opening.{member_again}
use Rattle.tinyjson_patch.proofs.edit.opened.open_object.Goals as goal

pub returns-in-Some : goal.returns-in-Some
returns-in-Some c =
    let old = c.args.members.entries in
    let new = c.take_member.new.members.entries in (
      c.in-Some.ensures.0,
      λ u. member_again (members_tree old) (members_tree new) (chars c.args.token.now) (array no_items) u (members_sorted old) c.in-Some.ensures.1,
    )
