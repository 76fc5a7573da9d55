use Rattle.tinyjson_document.proofs.Callers.{ok_map}
use Rattle.tinyjson_view.specs.Views.{members_of, tree_of, trees_of}
use Rattle.tinyjson_patch.proofs.Editing.Counting.{both_spread}
use Rattle.tinyjson_patch.proofs.edit.count.push_kept.Goals as goal

pub returns : goal.returns
returns c = ok_map c.push_named.result (λ h.
    both_spread (tree_of c.args.view) c.args.stack.now.items c.push_views.new.stack.items c.push_named.new.stack.items
    (trees_of c.in_ok-items.field-0.items) (members_of c.in_ok-members.field-0.items) c.in_ok-items.ensures c.in_ok-members.ensures.listed
    c.in_ok-push_views.ensures h) c.push_named.ensures
