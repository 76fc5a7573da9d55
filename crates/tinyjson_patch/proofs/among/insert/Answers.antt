use Rattle.std.proofs.Common.{Err, map, subst}
use Rattle.std.specs.Box.{box_value}
use Rattle.tinyjson.specs.Tree.{array}
use Rattle.tinyjson.specs.View.{view, items_view}
use Rattle.tinyjson_pointer.specs.Change.{with_child, Inserts}
use Rattle.tinyjson_pointer.specs.Siblings.{child_name}
use Rattle.tinyjson_pointer.specs.Tokens.{tokens_of}
use Rattle.tinyjson_patch.proofs.Siblings.{added_among, no_place_among}
use Rattle.tinyjson_patch.proofs.among.insert.Goals as goal

pub returns-in-Ok : goal.returns-in-Ok
returns-in-Ok c = λ t ks s there beside.
    added_among t ks (tokens_of c.args.path.now) s there beside (view (box_value c.args.item)) (map box_value c.args.items.now.items)
    (map box_value c.insert_in.new.items.items) c.in-Ok.ensures

pub returns-in-Err-NoPlace : goal.returns-in-Err-NoPlace
returns-in-Err-NoPlace c = λ t ks s there beside.
    let ls = tokens_of c.args.path.now in
    let u = view (box_value c.args.item) in
    let vs = map box_value c.args.items.now.items in
    let whole = array (items_view vs) in
    let left = array (items_view (map box_value c.insert_in.new.items.items)) in
    no_place_among t ks ls s there beside u vs
    (subst (λ e. Inserts (with_child whole (child_name ls) u) whole (Err e) left) c.in-Err-NoPlace.field-0-is
    c.in-Err-NoPlace.ensures).0
