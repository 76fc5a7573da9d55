use Rattle.std.proofs.Common.{map, sym, ap, ◌∙◌}
use Rattle.tinyjson.proofs.Callers.{view_Array}
use Rattle.tinyjson.specs.Tree.{array}
use Rattle.tinyjson.specs.View.{view, text, items_view}
use Rattle.tinyjson_pointer.proofs.Beside.{split_tokens, put_in}
use Rattle.tinyjson_pointer.specs.Siblings.{with_container}
use Rattle.tinyjson_pointer.specs.Tokens.{tokens_of}
use Rattle.tinyjson_pointer.proofs.pointer.Pointer.put_items.Goals as goal

pub returns-in-Some : goal.returns-in-Some
returns-in-Some c = λ there.
    let t = view c.args.value.now in
    let ks = tokens_of c.args.self.now in
    let front = c.in-Some.front.now in
    let last = c.in-Some.field-0-0.now in
    put_in t (view c.put_back.new.value) _ ks (map text front) (text last)
    (split_tokens c.args.self.now.tokens.items front last (sym c.as_slice.ensures.value ∙ c.in-Some.ensures.cases.0))
    c.put_back.ensures there
    ∙ ap (with_container t ks) (view_Array c.from.result ∙ ap (λ vs. array (items_view vs)) c.from.ensures.0)
