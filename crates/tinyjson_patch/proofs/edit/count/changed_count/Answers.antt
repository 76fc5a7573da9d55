use Rattle.std.proofs.Common.{◌≡◌, length, ap, arith, sym, ◌∙◌}
use Rattle.tinyjson_document.specs.Parts.{size}
use Rattle.tinyjson_grammar.specs.Tree.{array, object}
use Rattle.tinyjson_patch.specs.private.Edited.{items_tree, members_tree, tree}
use Rattle.tinyjson_patch.proofs.Editing.Counting.{entry_count, item_total}
use Rattle.tinyjson_patch.proofs.Editing.Trees.{tree_Array, tree_Object}
use Rattle.tinyjson_patch.proofs.edit.count.changed_count.Goals as goal

pub returns-in-Array : goal.returns-in-Array
returns-in-Array c =
    let l = c.in-Array.items in
    let count : c.len-in-Array.result ≡ length l.items = omega (arith, l.small, l.ok, c.len-in-Array.ensures) in
    let seen : tree c.args.value.now ≡ array (items_tree l.items)
    = ap tree c.in-Array.is ∙ tree_Array l in
    count ∙ (sym (item_total l.items) ∙ ap size (sym seen))

pub returns-in-Object : goal.returns-in-Object
returns-in-Object c =
    let m = c.in-Object.members in
    let seen : tree c.args.value.now ≡ object (members_tree m.entries)
    = ap tree c.in-Object.is ∙ tree_Object m in
    c.len-in-Object.ensures.len
    ∙ (sym (entry_count m.entries c.len-in-Object.ensures.ordered) ∙ ap size (sym seen))
