use Rattle.std.proofs.Common.{◌≡◌, ◌++◌, ◌∷◌, [], map, sym, ap, ◌∙◌, subst}
use Rattle.std.proofs.lemmas.List.{map-append}
use Rattle.std.specs.Str.{chars}
use Rattle.tinyjson.proofs.Callers.{view_IsTree}
use Rattle.tinyjson.specs.View.{view, text}
use Rattle.tinyjson_pointer.proofs.Changing.{inserts_in, no_new_part}
use Rattle.tinyjson_pointer.specs.Change.{with_child, with_new_part, Inserts}
use Rattle.tinyjson_pointer.specs.Tokens.{tokens_of}
use Rattle.tinyjson_pointer.proofs.pointer.Pointer.insert.Goals as goal

pub returns-in_default-take_at : goal.returns-in_default-take_at
returns-in_default-take_at c =
    let t = view c.args.value.now in
    let u = view c.args.part in
    let front = c.in-Some.front.now in
    let last = c.in-Some.last.now in
    let split : tokens_of c.args.self.now ≡ map text front ++ text last ∷ []
    = ap (map text) (sym c.as_slice.ensures.value ∙ c.in-Some.ensures.cases.0) ∙ map-append text front (last ∷ []) in (
      ap (λ ks. with_new_part t ks u) split ∙ no_new_part t (map text front) (text last) u c.in_default-take_at.ensures.0,
      c.in_default-take_at.ensures.1,
    )

pub returns : goal.returns
returns c =
    let t = view c.args.value.now in
    let u = view c.args.part in
    let front = c.in-Some.front.now in
    let last = c.in-Some.last.now in
    let inner = view c.in-Some-take_at.container in
    let r = c.insert_child-answer.result in
    let changed = view c.insert_child-answer.new.container in
    let split : tokens_of c.args.self.now ≡ map text front ++ text last ∷ []
    = ap (map text) (sym c.as_slice.ensures.value ∙ c.in-Some.ensures.cases.0) ∙ map-append text front (last ∷ []) in
    subst (λ ks. Inserts (with_new_part t ks u) t r (view c.put_back.new.value)) (sym split)
    (inserts_in t inner changed (view c.take_at.new.value) (view c.put_back.new.value) (map text front) (view_IsTree c.args.value.now)
    c.in-Some-take_at.ensures.0 c.in-Some-take_at.ensures.1 c.put_back.ensures (text last) u r
    (subst (λ bs. Inserts (with_child inner (chars bs) u) inner r changed) c.as_str.ensures.value c.insert_child-answer.ensures))
