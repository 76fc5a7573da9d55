use Rattle.std.proofs.Common.{sym, ap, ◌∙◌, subst, map, option_map}
use Rattle.std.specs.Box.{box_value}
use Rattle.std.specs.Str.{chars}
use Rattle.tinyjson.specs.Tree.{array}
use Rattle.tinyjson.specs.View.{text}
use Rattle.tinyjson_pointer.proofs.Beside.{split_tokens, name_is}
use Rattle.tinyjson_pointer.specs.Change.{without_child, Removes}
use Rattle.tinyjson_pointer.specs.Siblings.{child_name, boxes_view}
use Rattle.tinyjson_pointer.specs.Walk.{step}
use Rattle.tinyjson_pointer.proofs.pointer.Pointer.remove_from.Goals as goal

pub returns : goal.returns
returns c =
    let front = c.in_ok-last.field-0-1.now in
    let last = c.in_ok-last.last.now in
    let whole = array (boxes_view c.args.items.now.items) in
    let left = array (boxes_view c.remove_at.new.items.items) in
    subst (λ k. Removes (step whole k) (without_child whole k) whole (option_map box_value c.remove_at.result) left)
    (ap chars c.as_str.ensures.value
    ∙ sym (ap child_name
    (split_tokens c.args.self.now.tokens.items front last (sym c.as_slice.ensures.value ∙ c.in_ok-last.ensures.cases.0))
    ∙ name_is (map text front) (text last)))
    c.remove_at.ensures
