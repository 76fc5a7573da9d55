use Rattle.std.specs.Str.{chars}
use Rattle.tinyjson.specs.View.{view}
use Rattle.tinyjson_pointer.proofs.Children.{into_object}
use Rattle.tinyjson_pointer.proofs.change.insert_child.Goals as goal

pub returns-in-Some : goal.returns-in-Some
returns-in-Some c = into_object c.args.container.now c.in-Some.members.now c.insert_at_key.new.members (chars c.args.token.now)
    (view c.args.part) c.insert_at_key.result c.in-Some.ensures.value c.insert_at_key.ensures
