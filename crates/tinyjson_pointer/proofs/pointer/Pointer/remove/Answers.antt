use Rattle.std.proofs.Common.{◌≡◌, ◌++◌, ◌∷◌, [], map, sym, ap, ◌∙◌, subst}
use Rattle.std.proofs.lemmas.List.{map-append}
use Rattle.std.specs.Str.{chars}
use Rattle.tinyjson.proofs.Callers.{view_IsTree}
use Rattle.tinyjson.specs.View.{view, text}
use Rattle.tinyjson_pointer.proofs.Changing.{removes_in, nothing_without}
use Rattle.tinyjson_pointer.proofs.Children.{none_removed}
use Rattle.tinyjson_pointer.specs.Change.{without_child, without_part, Removes}
use Rattle.tinyjson_pointer.specs.Tokens.{tokens_of}
use Rattle.tinyjson_pointer.specs.Walk.{step, part_at}
use Rattle.tinyjson_pointer.proofs.pointer.Pointer.remove.Goals as goal

pub returns-in_err-container : goal.returns-in_err-container
returns-in_err-container c =
    let t = view c.args.value.now in
    let front = c.in_ok-last.front.now in
    let last = c.in_ok-last.last.now in
    let split : tokens_of c.args.self.now ≡ map text front ++ text last ∷ []
    = ap (map text) (sym c.as_slice.ensures.value ∙ c.in_ok-last.ensures.cases.0) ∙ map-append text front (last ∷ []) in
    none_removed _ _ _ _ c.from_residual-in_err-container.result c.from_residual-in_err-container.ensures
    (ap (without_part t) split ∙ nothing_without t (map text front) (text last) c.in_err-container.ensures.0)
    c.in_err-container.ensures.1

pub returns : goal.returns
returns c =
    let t = view c.args.value.now in
    let front = c.in_ok-last.front.now in
    let last = c.in_ok-last.last.now in
    let inner = view c.in_ok-container.container in
    let r = c.remove_child-answer.result in
    let changed = view c.remove_child-answer.new.container in
    let split : tokens_of c.args.self.now ≡ map text front ++ text last ∷ []
    = ap (map text) (sym c.as_slice.ensures.value ∙ c.in_ok-last.ensures.cases.0) ∙ map-append text front (last ∷ []) in
    subst (λ ks. Removes (part_at t ks) (without_part t ks) t r (view c.put_back.new.value)) (sym split)
    (removes_in t inner changed (view c.take_at.new.value) (view c.put_back.new.value) (map text front) (view_IsTree c.args.value.now)
    c.in_ok-container.ensures.0 c.in_ok-container.ensures.1 c.put_back.ensures (text last) r
    (subst (λ bs. Removes (step inner (chars bs)) (without_child inner (chars bs)) inner r changed) c.as_str.ensures.value
    c.remove_child-answer.ensures))
