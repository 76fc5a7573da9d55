use Rattle.std.proofs.Common.{◌≡◌, ◌++◌, ◌∷◌, [], map, sym, ap, ◌∙◌}
use Rattle.std.proofs.lemmas.List.{map-append}
use Rattle.std.specs.Str.{chars}
use Rattle.tinyjson.specs.View.{text}
use Rattle.tinyjson_pointer.proofs.Callers.{new_part_at}
use Rattle.tinyjson_pointer.specs.Change.{changed_at, with_child, with_new_part}
use Rattle.tinyjson_pointer.specs.Tokens.{tokens_of}
use Rattle.tinyjson_patch.specs.private.Edited.{tree}
use Rattle.tinyjson_patch.proofs.edit.apply.insertion.Goals as goal

pub returns-in-Some : goal.returns-in-Some
returns-in-Some c = λ t.
    let u = tree c.args.part in
    let front = c.in-Some.front.now in
    let last = c.in-Some.last.now in
    let split : tokens_of c.args.path.now ≡ map text front ++ text last ∷ []
    = sym c.tokens.ensures ∙ (ap (map text) c.in-Some.ensures.cases.0 ∙ map-append text front (last ∷ [])) in
    ap (λ ks. with_new_part t ks u) split
    ∙ (new_part_at t (map text front) (text last) u
    ∙ ap (λ bs. changed_at (λ p. with_child p (chars bs) u) t (map text front)) (sym c.as_str.ensures.value))
