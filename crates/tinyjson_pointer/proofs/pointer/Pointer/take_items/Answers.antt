use Rattle.std.proofs.Common.{map, refl, sym, ◌∙◌}
use Rattle.tinyjson.proofs.Callers.{view_IsTree}
use Rattle.tinyjson.specs.View.{view, text}
use Rattle.tinyjson_pointer.proofs.Beside.{split_tokens, taken}
use Rattle.tinyjson_pointer.proofs.Changing.{unchanged}
use Rattle.tinyjson_pointer.specs.Tokens.{tokens_of}
use Rattle.tinyjson_pointer.proofs.pointer.Pointer.take_items.Goals as goal

pub returns-in-Array : goal.returns-in-Array
returns-in-Array c =
    let front = c.in_ok-front.front.now in
    let last = c.in_ok-front.field-0-0.now in
    taken (view c.args.value.now) (view c.take_at.new.value) (tokens_of c.args.self.now) (map text front) (text last) c.in_ok-other.other
    c.in-Array.items c.from_vec.result.items
    (split_tokens c.args.self.now.tokens.items front last (sym c.as_slice.ensures.value ∙ c.in_ok-front.ensures.cases.0))
    c.in-Array.is c.from_vec.ensures.items c.in_ok-other.ensures.0 c.in_ok-other.ensures.1

pub returns-in_default : goal.returns-in_default
returns-in_default c =
    let whole = view c.in_ok-other.other in
    unchanged (view c.args.value.now) whole whole (view c.take_at.new.value) (view c.put_back.new.value)
    (map text c.in_ok-front.front.now) (view_IsTree c.args.value.now) c.in_ok-other.ensures.0 c.in_ok-other.ensures.1
    c.put_back.ensures refl
