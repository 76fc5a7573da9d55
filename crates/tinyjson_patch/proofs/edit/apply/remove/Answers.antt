use Rattle.std.proofs.Common.{◌≡◌, ◌++◌, ◌∷◌, [], map, sym, ap, ◌∙◌}
use Rattle.std.proofs.lemmas.List.{map-append}
use Rattle.std.specs.Str.{chars}
use Rattle.tinyjson.specs.View.{text}
use Rattle.tinyjson_patch.specs.Operation.{or_fail, removed}
use Rattle.tinyjson_patch.specs.declared.operation.Reason.TheVariants as reason
use Rattle.tinyjson_pointer.specs.Change.{changed_at, without_child}
use Rattle.std.specs.Prelude.{option_and_then}
use Rattle.tinyjson_pointer.specs.Walk.{part_at, step}
use Rattle.tinyjson_pointer.specs.Tokens.{tokens_of}
use Rattle.tinyjson_patch.specs.private.Edited.{tree}
use Rattle.tinyjson_patch.proofs.Editing.Operations.{done, removed_is, stopped}
use Rattle.tinyjson_patch.proofs.edit.apply.remove.Goals as goal

pub returns-in-Ok : goal.returns-in-Ok
returns-in-Ok c =
    let t = tree c.args.target.now in
    let front = c.in-Some.front.now in
    let last = c.in-Some.last.now in
    let split : tokens_of c.args.path.now ≡ map text front ++ text last ∷ []
    = sym c.tokens.ensures ∙ (ap (map text) c.in-Some.ensures.cases.0 ∙ map-append text front (last ∷ [])) in
    let is = ap (λ ks. removed ks t) split ∙ (removed_is t (map text front) (text last)
    ∙ ap (λ bs. or_fail (changed_at (λ p. without_child p (chars bs)) t (map text front)) reason.NoTarget) (sym c.as_str.ensures.value)) in
    done (removed (tokens_of c.args.path.now) t) (changed_at (λ p. without_child p (chars c.as_str.result.now)) t (map text front))
    reason.NoTarget (tree c.change_at.new.whole) is c.in-Ok.ensures.0

pub returns-in-Err : goal.returns-in-Err
returns-in-Err c =
    let t = tree c.args.target.now in
    let front = c.in-Some.front.now in
    let last = c.in-Some.last.now in
    let split : tokens_of c.args.path.now ≡ map text front ++ text last ∷ []
    = sym c.tokens.ensures ∙ (ap (map text) c.in-Some.ensures.cases.0 ∙ map-append text front (last ∷ [])) in
    let is = ap (λ ks. removed ks t) split ∙ (removed_is t (map text front) (text last)
    ∙ ap (λ bs. or_fail (changed_at (λ p. without_child p (chars bs)) t (map text front)) reason.NoTarget) (sym c.as_str.ensures.value)) in
    stopped (removed (tokens_of c.args.path.now) t) (changed_at (λ p. without_child p (chars c.as_str.result.now)) t (map text front))
    (option_and_then (λ p. step p (chars c.as_str.result.now)) (part_at t (map text front)))
    reason.NoTarget (tree c.change_at.new.whole) c.in-Err.error c.stop_for.result is c.in-Err.ensures c.stop_for.ensures
