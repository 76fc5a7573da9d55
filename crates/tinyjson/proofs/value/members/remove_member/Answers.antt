use Rattle.std.proofs.Common.{sym, ap, ◌∙◌, option_map}
use Rattle.tinyjson.proofs.Values.View.{find_members_view, members_view_removes}
use Rattle.tinyjson.specs.View.{view}
use Rattle.tinyjson.proofs.value.members.remove_member.Goals as goal

pub returns-clause-old_tree : goal.returns-clause-old_tree
returns-clause-old_tree c = ap (option_map view) c.remove.ensures.value
    ∙ sym (find_members_view c.args.key.now c.utf8.key c.args.members.now.entries)

pub returns-clause-new : goal.returns-clause-new
returns-clause-new c = members_view_removes c.args.members.now.entries c.remove.new.self.entries c.args.key.now c.utf8.key
    c.remove.ensures.updates.0
