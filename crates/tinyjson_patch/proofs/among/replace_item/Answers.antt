use Rattle.std.proofs.Common.{map, subst}
use Rattle.std.specs.Box.{box_value}
use Rattle.tinyjson.specs.Tree.{array}
use Rattle.tinyjson.specs.View.{view, items_view}
use Rattle.tinyjson_pointer.specs.Siblings.{child_name}
use Rattle.tinyjson_pointer.specs.Tokens.{tokens_of}
use Rattle.tinyjson_patch.proofs.Siblings.{replaced_among, at_none, none_there}
use Rattle.tinyjson_patch.specs.Operation.{Applies}
use Rattle.tinyjson_patch.specs.Running.{with_boxes}
use Rattle.tinyjson_patch.specs.declared.operation.Reason.TheVariants.{NoTarget}
use Rattle.tinyjson_patch.proofs.among.replace_item.Goals as goal

pub returns-in-Some : goal.returns-in-Some
returns-in-Some c = λ t ks s there beside.
    let u = view (box_value c.args.item) in
    subst (λ o. Applies o c.insert.result (with_boxes t ks c.insert.new.items.items))
    (replaced_among t ks (tokens_of c.args.path.now) s there beside u (view (box_value c.in-Some.old))
    (map box_value c.args.items.now.items) (map box_value c.remove_from.new.items.items) c.in-Some.ensures.0 c.in-Some.ensures.1)
    (c.insert.ensures t ks s there beside)

pub returns-in-None : goal.returns-in-None
returns-in-None c = λ t ks s there beside.
    let ls = tokens_of c.args.path.now in
    let vs = map box_value c.args.items.now.items in
    at_none t ks ls s there beside vs NoTarget (λ old. _)
    (none_there (array (items_view vs)) (child_name ls) c.in-None.ensures.0)
