use Rattle.std.proofs.Common.{◌≡◌, OnOk, ap, subst, sym, ◌∙◌}
use Rattle.tinyjson_grammar.specs.Tree.{array}
use Rattle.tinyjson_patch.specs.private.Counting.{Spreads}
use Rattle.tinyjson_patch.specs.private.Edited.{items_tree, tree}
use Rattle.tinyjson_patch.proofs.Editing.Trees.{tree_Array}
use Rattle.tinyjson_patch.proofs.edit.count.push_changed.Goals as goal

pub returns-in-Array : goal.returns-in-Array
returns-in-Array c =
    let l = c.in-Array.items in
    let seen : tree c.args.value.now ≡ array (items_tree l.items)
    = ap tree c.in-Array.is ∙ tree_Array l in
    subst (λ t. OnOk c.push_items.result (Spreads t c.args.stack.now.items c.push_items.new.stack.items)) (sym seen) c.push_items.ensures
