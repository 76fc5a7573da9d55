use Rattle.tinyjson_patch.proofs.Editing.Counting.{last_put}
use Rattle.tinyjson_patch.proofs.edit.count.put_part.Goals as goal

pub returns : goal.returns
returns c = last_put c.args.part c.args.stack.now.items c.push.new.self.items c.in_ok-push.ensures.items
