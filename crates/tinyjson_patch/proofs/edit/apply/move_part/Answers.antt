use Rattle.std.proofs.Common.{◌≡◌, ◌++◌, ◌∷◌, [], Err, false, map, option_map, sym, ap, ◌∙◌, subst}
use Rattle.std.proofs.lemmas.List.{map-append}
use Rattle.std.specs.Prelude.{option_and_then}
use Rattle.std.specs.Str.{chars}
use Rattle.tinyjson.specs.View.{text}
use Rattle.tinyjson_patch.specs.Operation.{moved}
use Rattle.tinyjson_pointer.specs.Tokens.{begins_with, tokens_of}
use Rattle.tinyjson_pointer.specs.Walk.{part_at, step}
use Rattle.tinyjson_patch.specs.private.Applying.{Completes}
use Rattle.tinyjson_patch.specs.private.Edited.{tree}
use Rattle.tinyjson_patch.proofs.Editing.Operations.{moves, no_source}
use Rattle.tinyjson_patch.proofs.edit.apply.move_part.Goals as goal

pub returns-in-Ok-Some : goal.returns-in-Ok-Some
returns-in-Ok-Some c =
    let t = tree c.args.target.now in
    let js = map text c.in-Some.front.now in
    let last = c.in-Some.last.now in
    let k = chars c.as_str.result.now in
    let path = tokens_of c.args.path.now in
    let split : tokens_of c.args.from.now ≡ js ++ k ∷ []
    = sym c.tokens.ensures ∙ (ap (map text) c.in-Some.ensures.cases.0 ∙ (map-append text c.in-Some.front.now (last ∷ [])
    ∙ ap (λ bs. js ++ chars bs ∷ []) (sym c.as_str.ensures.value))) in
    let other : begins_with path (js ++ k ∷ []) ≡ false
    = subst (λ ks. begins_with path ks ≡ false) split (sym c.starts_with.ensures ∙ c.if-starts_with.false) in
    let there = subst (λ o. option_map tree o ≡ option_and_then (λ p. step p k) (part_at t js)) c.in-Ok-Some.field-0-is
    c.in-Ok-Some.ensures.1 in
    subst (λ ks. Completes (moved ks path t) c.add.result (tree c.add.new.target)) (sym split)
    (moves t (tree c.change_at.new.whole) (tree c.add.new.target) js path k c.add.result c.in-Ok-Some.part other
    c.in-Ok-Some.ensures.0 there c.add.ensures)

pub returns-in-Err : goal.returns-in-Err
returns-in-Err c =
    let t = tree c.args.target.now in
    let js = map text c.in-Some.front.now in
    let last = c.in-Some.last.now in
    let k = chars c.as_str.result.now in
    let path = tokens_of c.args.path.now in
    let split : tokens_of c.args.from.now ≡ js ++ k ∷ []
    = sym c.tokens.ensures ∙ (ap (map text) c.in-Some.ensures.cases.0 ∙ (map-append text c.in-Some.front.now (last ∷ [])
    ∙ ap (λ bs. js ++ chars bs ∷ []) (sym c.as_str.ensures.value))) in
    let other : begins_with path (js ++ k ∷ []) ≡ false
    = subst (λ ks. begins_with path ks ≡ false) split (sym c.starts_with.ensures ∙ c.if-starts_with.false) in
    subst (λ ks. Completes (moved ks path t) (Err c.stop_for.result) (tree c.change_at.new.whole)) (sym split)
    (no_source t (tree c.change_at.new.whole) js path k (option_and_then (λ p. step p k) (part_at t js)) c.in-Err.error c.stop_for.result
    other c.in-Err.ensures c.stop_for.ensures)
