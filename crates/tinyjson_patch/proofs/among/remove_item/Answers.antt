use Rattle.std.proofs.Common.{map}
use Rattle.std.specs.Box.{box_value}
use Rattle.tinyjson_pointer.specs.Tokens.{tokens_of}
use Rattle.tinyjson_patch.proofs.Siblings.{removed_among, no_target_among}
use Rattle.tinyjson_patch.proofs.among.remove_item.Goals as goal

pub returns-in-Some : goal.returns-in-Some
returns-in-Some c = λ t ks s there beside.
    removed_among t ks (tokens_of c.args.path.now) s there beside (map box_value c.args.items.now.items)
    (map box_value c.remove_from.new.items.items) c.in-Some.ensures.1

pub returns-in-None : goal.returns-in-None
returns-in-None c = λ t ks s there beside.
    no_target_among t ks (tokens_of c.args.path.now) s there beside (map box_value c.args.items.now.items) c.in-None.ensures.0
