use Rattle.std.proofs.Common.{◌∙◌, sym, subst}
use Rattle.tinyjson_document.specs.Holding.{IsBuilt}
use Rattle.std.specs.Str.{chars}
use Rattle.tinyjson.proofs.Callers.{told_error}
use Rattle.tinyjson_document.proofs.reader.DocumentReader.build.Goals as goal

pub returns-in-Ok : goal.returns-in-Ok
returns-in-Ok c =
    let h = c.in-Ok.ensures in
    let same = sym h.answer.3.1 ∙ c.arena-arena.ensures.text in
    record {
      consumed = h.consumed;
      rest = h.rest;
      whole = h.whole;
      answer = (
        h.answer.0,
        h.answer.1,
        h.answer.2,
        subst (λ z. IsBuilt z c.built-built.result.0 h.answer.1) same (c.built-built.ensures h.answer.1 h.answer.3.0),
      );
      refused = tt;
      broken_off = tt;
    }

pub returns-in-Err : goal.returns-in-Err
returns-in-Err c = told_error _ c.args.limit (chars c.args.text.now) (IsBuilt c.args.source.now) c.in-Err.error c.from.result
    c.in-Err.ensures c.from.ensures
