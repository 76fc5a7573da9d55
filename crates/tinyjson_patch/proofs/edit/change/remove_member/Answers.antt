use Rattle.tinyjson_patch.proofs.Editing.Steps.{member_removal, no_member_removal}
use Rattle.tinyjson_patch.proofs.edit.change.remove_member.Goals as goal

pub returns-in-Some : goal.returns-in-Some
returns-in-Some c = member_removal c.args.members.now c.remove.new.self c.args.token.now c.in-Some.old c.utf8.token
    c.in-Some.ensures.value c.remove.ensures.updates.0

pub returns-in-None : goal.returns-in-None
returns-in-None c = no_member_removal c.args.members.now c.args.token.now c.utf8.token c.in-None.ensures.value
