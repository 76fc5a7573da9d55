use Rattle.std.proofs.Common.{reverse}
use Rattle.tinyjson_document.specs.declared.walk.Rest.TheVariants.{Items, Members}
use Rattle.tinyjson_document.proofs.Passing.{then_resumes}
use Rattle.tinyjson_document.proofs.walk.Walk.resume.Goals as goal

pub returns-in-Items-clause-sent : goal.returns-in-Items-clause-sent
returns-in-Items-clause-sent g c = λ xs h.
    let s = c.args.self.now in
    let m = c.pass.new.self in
    let e = c.in_ok-rest.ensures in
    then_resumes s.indent m.indent s.store m.store _ _ _ xs c.in_ok-rest.rest (Items c.in-Items.rest c.in-Items.first) s.stack.items
    m.stack.items (reverse c.resume_items.new.self.stack.items) c.resume_items.result e.indent e.store e.stack c.in-Items.is (e.sent xs h)
    c.resume_items.ensures.sent

pub returns-in-Members-clause-sent : goal.returns-in-Members-clause-sent
returns-in-Members-clause-sent g c = λ xs h.
    let s = c.args.self.now in
    let m = c.pass.new.self in
    let e = c.in_ok-rest.ensures in
    then_resumes s.indent m.indent s.store m.store _ _ _ xs c.in_ok-rest.rest (Members c.in-Members.rest c.in-Members.first) s.stack.items
    m.stack.items (reverse c.resume_members.new.self.stack.items) c.resume_members.result e.indent e.store e.stack c.in-Members.is
    (e.sent xs h) c.resume_members.ensures.sent
