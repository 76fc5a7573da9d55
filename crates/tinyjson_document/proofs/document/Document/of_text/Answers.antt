use Rattle.std.proofs.Common.{◌≡◌, ◌∙◌, None, Ok, Err, sym, ap, subst}
use Rattle.std.specs.Prelude.{string_bytes}
use Rattle.std.specs.Str.{chars}
use Rattle.tinyjson_grammar.proofs.Callers.{text_sound}
use Rattle.tinyjson.specs.Events.{TellsText}
use Rattle.tinyjson_document.specs.Document.{HasTree}
use Rattle.tinyjson_document.specs.Holding.{IsBuilt}
use Rattle.tinyjson_cells.specs.Texts.{source_bytes}
use Rattle.tinyjson.proofs.Callers.{told_error}
use Rattle.tinyjson_document.proofs.document.Document.of_text.Goals as goal

pub over-requires : goal.over-requires
over-requires c =
    let h = c.in-Ok.ensures.tells in
    let same : source_bytes c.in-Ok.arena.store.texts.source ≡ string_bytes c.args.text
    = sym h.answer.3.1 ∙ (c.over-arena.ensures.text ∙ c.as_str.ensures.value) in (
      h.answer.1,
      subst (λ z. IsBuilt z c.built.result.0 h.answer.1) same (c.built.ensures h.answer.1 h.answer.3.0),
      ∣ text_sound _ _ _ h.answer.2 ∣₁,
    )

pub returns : goal.returns
returns c =
    let h = c.in-Ok.ensures.tells in
    let same : source_bytes c.in-Ok.arena.store.texts.source ≡ string_bytes c.args.text
    = sym h.answer.3.1 ∙ (c.over-arena.ensures.text ∙ c.as_str.ensures.value) in
    let built = subst (λ z. IsBuilt z c.built.result.0 h.answer.1) same (c.built.ensures h.answer.1 h.answer.3.0) in
    subst (λ bs. TellsText HasTree None (chars bs) (Ok c.over.result)) c.as_str-2.ensures.value (record {
      consumed = h.consumed;
      rest = h.rest;
      whole = h.whole;
      answer = (h.answer.0, h.answer.1, h.answer.2, c.over.ensures h.answer.1 built);
      refused = tt;
      broken_off = tt;
    })

pub returns-in-Err : goal.returns-in-Err
returns-in-Err c = subst (λ bs. TellsText HasTree None (chars bs) (Err c.from.result)) c.as_str-2.ensures.value
    (told_error _ None (chars c.as_str-2.result.now) HasTree c.in-Err.error c.from.result c.in-Err.ensures.tells c.from.ensures)
