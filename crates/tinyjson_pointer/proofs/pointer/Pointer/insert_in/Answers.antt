use Rattle.std.proofs.Common.{sym, ap, ◌∙◌, subst, map}
use Rattle.std.specs.Str.{chars}
use Rattle.tinyjson.specs.Tree.{array}
use Rattle.tinyjson.specs.View.{view, text}
use Rattle.tinyjson_pointer.proofs.Beside.{split_tokens, name_is}
use Rattle.tinyjson_pointer.specs.Change.{with_child, Inserts}
use Rattle.tinyjson_pointer.specs.Siblings.{child_name, boxes_view}
use Rattle.tinyjson_pointer.proofs.pointer.Pointer.insert_in.Goals as goal

pub returns-in-Some : goal.returns-in-Some
returns-in-Some c =
    let front = c.in-Some.field-0-1.now in
    let last = c.in-Some.last.now in
    let whole = array (boxes_view c.args.items.now.items) in
    subst (λ k. Inserts (with_child whole k (view c.args.part.value)) whole c.insert_at.result
    (array (boxes_view c.insert_at.new.items.items)))
    (ap chars c.as_str.ensures.value
    ∙ sym (ap child_name (split_tokens c.args.self.now.tokens.items front last (sym c.as_slice.ensures.value ∙ c.in-Some.ensures.cases.0))
    ∙ name_is (map text front) (text last)))
    c.insert_at.ensures
