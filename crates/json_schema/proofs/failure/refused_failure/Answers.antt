use Rattle.std.proofs.Common.{Some, codes, ◌++◌, ⊎_elim, inl, inr, string_bytes, ap, ◌∙◌}
use Rattle.tinyjson_cli.specs.Shown.{shown}
use Rattle.tinyjson.specs.View.{text}
use Rattle.tinyjson_pointer.proofs.Callers.{place_text}
use Rattle.json_schema.proofs.failure.refused_failure.Goals as goal

pub returns : goal.returns
returns c =
    let words = c.in-Ok.words in
    let place = c.in-Ok-to_string.place in
    ⊎_elim
    (λ h. inl (
      string_bytes words,
      c.in-Ok.ensures,
      (
        h.0,
        h.1 ∙ ap (λ p. Some (codes "the schema: at \"" ++ (shown p ++ (codes "\": " ++ shown (text words)))))
            (place_text c.args.refusal.place.now place c.in-Ok-to_string.ensures.ok),
      ),
    ))
    (λ h. inr h)
    c.schema_failure.ensures
