use Rattle.std.proofs.Common.{map, subst, sym, Ok, ◌∙◌}
use Rattle.std.specs.Box.{box_value}
use Rattle.tinyjson.specs.Tree.{array}
use Rattle.tinyjson.specs.View.{view, items_view}
use Rattle.tinyjson_pointer.specs.Change.{without_part}
use Rattle.tinyjson_pointer.specs.Siblings.{child_name, are_beside}
use Rattle.tinyjson_pointer.specs.Tokens.{tokens_of}
use Rattle.tinyjson_patch.proofs.Siblings.{first_true, second_true, taken_among, at_part, at_none, none_there}
use Rattle.tinyjson_patch.proofs.Siblings.{moved_elsewhere, moved_nowhere}
use Rattle.tinyjson_patch.specs.Operation.{Applies, and_then, or_fail, added}
use Rattle.tinyjson_patch.specs.Running.{with_boxes}
use Rattle.tinyjson_patch.specs.declared.operation.Reason.TheVariants.{NoSource}
use Rattle.tinyjson_patch.proofs.among.move_item.Goals as goal

pub returns-in-Some : goal.returns-in-Some
returns-in-Some c = λ t ks s there among.
    let from = tokens_of c.args.from.now in
    let path = tokens_of c.args.path.now in
    let vs = map box_value c.args.items.now.items in
    let here = with_boxes t ks c.args.items.now.items in
    moved_nowhere from path here c.starts_with.result c.starts_with-then-starts_with.result c.starts_with.ensures
    c.starts_with-then-starts_with.ensures c.if-starts_with.true c.if-not-starts_with.false
    ∙ at_part t ks from s there (first_true (are_beside from ks) (are_beside path ks) among) vs (view c.in-Some.field-0.now) NoSource
    (λ part. Ok here) c.in-Some.ensures

pub returns-in-None : goal.returns-in-None
returns-in-None c = λ t ks s there among.
    let from = tokens_of c.args.from.now in
    let path = tokens_of c.args.path.now in
    let vs = map box_value c.args.items.now.items in
    let here = with_boxes t ks c.args.items.now.items in
    moved_nowhere from path here c.starts_with.result c.starts_with-then-starts_with.result c.starts_with.ensures
    c.starts_with-then-starts_with.ensures c.if-starts_with.true c.if-not-starts_with.false
    ∙ at_none t ks from s there (first_true (are_beside from ks) (are_beside path ks) among) vs NoSource (λ part. Ok here)
    (sym c.in-None.ensures)

pub returns-in-Some-remove_from : goal.returns-in-Some-remove_from
returns-in-Some-remove_from c = λ t ks s there among.
    let from = tokens_of c.args.from.now in
    let path = tokens_of c.args.path.now in
    let here = with_boxes t ks c.args.items.now.items in
    let both = first_true (are_beside from ks) (are_beside path ks) among in
    subst (λ o. Applies o c.insert.result (with_boxes t ks c.insert.new.items.items))
    (sym (moved_elsewhere from path here c.starts_with.result c.starts_with.result c.starts_with.ensures c.if-starts_with.false
    ∙ taken_among t ks from path s there both (view (box_value c.in-Some-remove_from.item)) (map box_value c.args.items.now.items)
    (map box_value c.remove_from.new.items.items) c.in-Some-remove_from.ensures.0 c.in-Some-remove_from.ensures.1))
    (c.insert.ensures t ks s there (second_true (are_beside from ks) (are_beside path ks) among))

pub returns-in-None-remove_from : goal.returns-in-None-remove_from
returns-in-None-remove_from c = λ t ks s there among.
    let from = tokens_of c.args.from.now in
    let path = tokens_of c.args.path.now in
    let vs = map box_value c.args.items.now.items in
    let here = with_boxes t ks c.args.items.now.items in
    moved_elsewhere from path here c.starts_with.result c.starts_with.result c.starts_with.ensures c.if-starts_with.false
    ∙ at_none t ks from s there (first_true (are_beside from ks) (are_beside path ks) among) vs NoSource
    (λ part. and_then (or_fail (without_part here from) NoSource) (added path part))
    (none_there (array (items_view vs)) (child_name from) c.in-None-remove_from.ensures.0)
