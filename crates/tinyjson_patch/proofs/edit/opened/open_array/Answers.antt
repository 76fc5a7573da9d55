use Rattle.std.proofs.Common.{◌≤◌, ◌^◌, arith, ap, sym, ◌∙◌}
use Rattle.std.specs.Str.{chars}
use Rattle.tinyjson_grammar.specs.Tree.{array, no_items}
use Rattle.tinyjson_pointer.specs.Walk.{item_of, with_item_of}
use Rattle.tinyjson_patch.specs.private.Edited.{items_tree}
use Rattle.tinyjson_patch.proofs.Editing.Opening.{nth_again}
use Rattle.tinyjson_patch.proofs.Editing.Steps.{no_item}
use Rattle.tinyjson_pointer.specs.Index.{index_of}
use Rattle.tinyjson_patch.proofs.edit.opened.open_array.Goals as goal

pub returns-in_default : goal.returns-in_default
returns-in_default c =
    let l = c.args.items in
    no_item l.items (index_of (chars c.args.token.now))
    (λ i e. let h : 2 ^ 64 ≤ i = c.in_default.ensures i e in omega (arith, l.small, l.ok, h))

pub returns-in-Some-take_item : goal.returns-in-Some-take_item
returns-in-Some-take_item c =
    let old = items_tree c.args.items.items in
    let new = items_tree c.take_item.new.items.items in
    let at = c.in-Some.ensures in (
      ap (item_of old) at ∙ c.in-Some-take_item.ensures.0,
      λ u. ap array (nth_again old new c.in-Some.at (array no_items) u c.in-Some-take_item.ensures.1 ∙ sym (ap (λ o. with_item_of old o u) at)),
    )

pub returns-in-None : goal.returns-in-None
returns-in-None c = ap (item_of (items_tree c.args.items.items)) c.in-Some.ensures ∙ c.in-None.ensures
