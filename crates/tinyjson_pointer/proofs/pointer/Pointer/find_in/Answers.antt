use Rattle.std.proofs.Common.{◌≡◌, sym, ap, ◌∙◌, subst, map, option_map}
use Rattle.std.specs.Str.{chars}
use Rattle.tinyjson.specs.Tree.{array}
use Rattle.tinyjson.specs.View.{view, text}
use Rattle.tinyjson_pointer.proofs.Beside.{split_tokens, name_is}
use Rattle.tinyjson_pointer.specs.Siblings.{child_name, boxes_view}
use Rattle.tinyjson_pointer.specs.Walk.{step}
use Rattle.tinyjson_pointer.proofs.pointer.Pointer.find_in.Goals as goal

pub returns : goal.returns
returns c =
    let front = c.in_ok-last.field-0-1.now in
    let last = c.in_ok-last.last.now in
    subst (λ k. option_map (λ x. view x.now) c.item_at.result ≡ step (array (boxes_view c.args.items.now.items)) k)
    (ap chars c.as_str.ensures.value
    ∙ sym (ap child_name
    (split_tokens c.args.self.now.tokens.items front last (sym c.as_slice.ensures.value ∙ c.in_ok-last.ensures.cases.0))
    ∙ name_is (map text front) (text last)))
    c.item_at.ensures
