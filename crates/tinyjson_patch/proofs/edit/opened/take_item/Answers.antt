use Rattle.std.proofs.Common.{◌≤◌, ◌<◌, Some, length, arith, ap, refl, sym, ◌∙◌}
use Rattle.tinyjson.specs.Index.{with_nth}
use Rattle.tinyjson_grammar.specs.Tree.{array}
use Rattle.tinyjson_patch.specs.private.Edited.{tree, items_tree}
use Rattle.tinyjson_patch.proofs.Editing.Steps.{items_set, nth_past, nth_there}
use Rattle.tinyjson_patch.proofs.Editing.Trees.{tree_Array}
use Rattle.tinyjson_patch.proofs.edit.opened.take_item.Goals as goal

pub returns-in-Some : goal.returns-in-Some
returns-in-Some c =
    let l = c.args.items.now in
    let i = c.args.at in
    let w = c.replace.new.b in
    let below : i < l.len = c.in-Some.ensures.variant.0 refl in (
      nth_there l.items i c.in-Some.item.now (omega (arith, below, l.small, l.ok)) c.in-Some.ensures.value ∙ ap (λ e. Some (tree e)) (sym c.replace.ensures.value),
      items_set l.items i w ∙ ap (with_nth (items_tree l.items) i)
          (ap tree c.replace.ensures.after ∙ (tree_Array c.new.result ∙ ap (λ es. array (items_tree es)) c.new.ensures.items)),
    )

pub returns-in-None : goal.returns-in-None
returns-in-None c =
    let l = c.args.items.now in
    let past : length l.items ≤ c.args.at = grind (arith, c.in-None.ensures.variant.1, l.small, l.ok) in
    nth_past l.items c.args.at past
