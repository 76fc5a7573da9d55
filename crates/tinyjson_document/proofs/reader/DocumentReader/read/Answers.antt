use Rattle.std.proofs.Common.{subst}
use Rattle.tinyjson_grammar.proofs.Callers.{text_sound}
use Rattle.tinyjson_document.specs.Holding.{IsBuilt}
use Rattle.tinyjson_document.proofs.reader.DocumentReader.read.Goals as goal

pub over-requires : goal.over-requires
over-requires c =
    let h = c.in-Ok.ensures in (
      h.answer.1,
      subst (λ z. IsBuilt z c.in-Ok.built h.answer.1) c.as_str.ensures.value h.answer.3,
      ∣ text_sound _ _ _ h.answer.2 ∣₁,
    )

pub returns-in-Ok : goal.returns-in-Ok
returns-in-Ok c =
    let h = c.in-Ok.ensures in
    let built = subst (λ z. IsBuilt z c.in-Ok.built h.answer.1) c.as_str.ensures.value h.answer.3 in
    record {
      consumed = h.consumed;
      rest = h.rest;
      whole = h.whole;
      answer = (h.answer.0, h.answer.1, h.answer.2, c.over.ensures h.answer.1 built);
      refused = tt;
      broken_off = tt;
    }
