use Rattle.tinyjson.proofs.generator.encode.Encoder.resume.Goals as goal

pub returns-in-Items-clause-sent : goal.returns-in-Items-clause-sent
returns-in-Items-clause-sent g c = rw c.in-Items.is c.items.ensures.sent

pub returns-in-Member-clause-sent : goal.returns-in-Member-clause-sent
returns-in-Member-clause-sent g c = rw c.in-Member.is c.only_member.ensures.sent

pub returns-in-Members-clause-sent : goal.returns-in-Members-clause-sent
returns-in-Members-clause-sent g c = rw c.in-Members.is c.members.ensures.sent
