use Rattle.std.proofs.Common.{◌≡◌, map, subst, sym, ap, ◌∙◌}
use Rattle.std.specs.Box.{box_value}
use Rattle.tinyjson.specs.View.{view}
use Rattle.tinyjson_pointer.specs.Siblings.{are_beside}
use Rattle.tinyjson_pointer.specs.Tokens.{tokens_of}
use Rattle.tinyjson_patch.proofs.Siblings.{first_true, second_true, at_part, at_none}
use Rattle.tinyjson_patch.specs.Operation.{Applies, added, copied}
use Rattle.tinyjson_patch.specs.Running.{with_boxes}
use Rattle.tinyjson_patch.specs.declared.operation.Reason.TheVariants.{NoSource}
use Rattle.tinyjson_patch.proofs.among.copy_item.Goals as goal

pub returns-in_default : goal.returns-in_default
returns-in_default c = λ t ks s there among.
    let from = tokens_of c.args.from.now in
    let path = tokens_of c.args.path.now in
    at_none t ks from s there (first_true (are_beside from ks) (are_beside path ks) among) (map box_value c.args.items.now.items)
    NoSource (λ part. added path part (with_boxes t ks c.args.items.now.items)) (sym c.in_default.ensures)

pub returns : goal.returns
returns c = λ t ks s there among.
    let from = tokens_of c.args.from.now in
    let path = tokens_of c.args.path.now in
    let bs = c.args.items.now.items in
    let here = with_boxes t ks bs in
    let same : added path (view (box_value c.in_ok-item.item)) here ≡ copied from path here
    = ap (λ v. added path v here) (ap view c.in_ok-item.ensures ∙ c.in_ok-try_clone.ensures)
    ∙ sym (at_part t ks from s there (first_true (are_beside from ks) (are_beside path ks) among) (map box_value bs)
    (view c.in-Some.part.now) NoSource (λ part. added path part here) c.in-Some.ensures) in
    subst (λ o. Applies o c.insert.result (with_boxes t ks c.insert.new.items.items)) same
    (c.insert.ensures t ks s there (second_true (are_beside from ks) (are_beside path ks) among))
