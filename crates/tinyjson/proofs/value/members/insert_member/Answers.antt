use Rattle.tinyjson.proofs.Values.View.{members_view_updates}
use Rattle.tinyjson.proofs.value.members.insert_member.Goals as goal

pub returns-in-Ok-None-clause-ok : goal.returns-in-Ok-None-clause-ok
returns-in-Ok-None-clause-ok c = members_view_updates c.args.members.now.entries c.insert.new.self.entries c.args.key c.args.value
    c.in-Ok-None.ensures.updates.0

pub returns-in-Ok-Some-clause-ok : goal.returns-in-Ok-Some-clause-ok
returns-in-Ok-Some-clause-ok c = members_view_updates c.args.members.now.entries c.insert.new.self.entries c.args.key c.args.value
    c.in-Ok-Some.ensures.updates.0
