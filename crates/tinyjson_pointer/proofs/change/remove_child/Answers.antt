use Rattle.std.specs.Str.{chars}
use Rattle.tinyjson_pointer.proofs.Children.{out_of_object}
use Rattle.tinyjson_pointer.proofs.change.remove_child.Goals as goal

pub returns-in-Some : goal.returns-in-Some
returns-in-Some c = out_of_object c.args.container.now c.in-Some.members.now c.remove_member.new.members (chars c.args.token.now)
    c.remove_member.result c.in-Some.ensures.value c.remove_member.ensures.old_tree c.remove_member.ensures.new
