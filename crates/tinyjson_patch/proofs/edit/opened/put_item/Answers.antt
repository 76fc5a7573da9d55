use Rattle.std.proofs.Common.{◌≤◌, length, arith, ap, sym, ◌∙◌}
use Rattle.tinyjson.specs.Index.{with_nth}
use Rattle.tinyjson_patch.specs.private.Edited.{tree, items_tree}
use Rattle.tinyjson_patch.proofs.Editing.Steps.{items_set, nth_past, nothing_set}
use Rattle.tinyjson_patch.proofs.edit.opened.put_item.Goals as goal

pub returns-in-Some : goal.returns-in-Some
returns-in-Some c =
    let l = c.args.items.now in
    items_set l.items c.args.at c.replace.new.b ∙ ap (λ e. with_nth (items_tree l.items) c.args.at (tree e)) c.replace.ensures.after

pub returns-in-None : goal.returns-in-None
returns-in-None c =
    let l = c.args.items.now in
    let past : length l.items ≤ c.args.at = grind (arith, c.in-None.ensures.variant.1, l.small, l.ok) in
    sym (nothing_set (items_tree l.items) c.args.at (tree c.args.part) (nth_past l.items c.args.at past))
