use Rattle.std.proofs.Common.{Some}
use Rattle.std.specs.Str.{chars}
use Rattle.tinyjson_grammar.proofs.Callers.{text_sound}
use Rattle.tinyjson.proofs.Callers.{told_error}
use Rattle.tinyjson_document.specs.Document.{HasTree}
use Rattle.tinyjson_document.proofs.document.Document.read_with_depth_limit.Goals as goal

pub of_arena-requires : goal.of_arena-requires
of_arena-requires c = let h = c.in-Ok.ensures.tells in (h.answer.1, h.answer.3.0, ∣ text_sound _ _ _ h.answer.2 ∣₁)

pub returns-in-Ok : goal.returns-in-Ok
returns-in-Ok c =
    let h = c.in-Ok.ensures.tells in
    record {
      consumed = h.consumed;
      rest = h.rest;
      whole = h.whole;
      answer = (h.answer.0, h.answer.1, h.answer.2, c.of_arena.ensures h.answer.1 h.answer.3.0);
      refused = tt;
      broken_off = tt;
    }

pub returns : goal.returns
returns c = told_error _ (Some c.args.limit) (chars c.args.text.now) HasTree c.in-Err.error c.from.result c.in-Err.ensures.tells c.from.ensures
