use Rattle.std.proofs.Common.{[], ◌≡◌, true, false, string_bytes, ap, sym, ◌∙◌}
use Rattle.std.proofs.lemmas.Result.{err_from_is_err_and}
use Rattle.tinyjson_number.specs.Numeral.{has_leading_zero}
use Rattle.tinyjson_tokens.proofs.Reading.NumberParts.{Refuses_integer, Refuses_zero, Part_integer}
use Rattle.tinyjson_tokens.proofs.reader.TokenReader.integer.Goals as goal

pub returns-in_err-digits-clause-reads : goal.returns-in_err-digits-clause-reads
returns-in_err-digits-clause-reads g c =
    let p = err_from_is_err_and c.from_residual.result c.from_residual.ensures.1 in
    rw (p.1, p.2) (Refuses_integer g.S.Source.sight _ _ _ c.accept-negative.result _ _ c.requires.begins c.accept-negative.ensures.accepts _
    c.in_err-digits.ensures.reads)

pub returns-then-has_leading_zero-clause-reads : goal.returns-then-has_leading_zero-clause-reads
returns-then-has_leading_zero-clause-reads g c =
    let empty : string_bytes c.accept-negative.new.self.digit_buffer ≡ [] = ap string_bytes c.accept-negative.ensures.kept
    ∙ c.requires.empty in
    let zero : has_leading_zero (string_bytes c.digits.new.self.digit_buffer) ≡ true = ap has_leading_zero (sym c.as_bytes.ensures.value)
    ∙ sym c.has_leading_zero.ensures ∙ c.if-has_leading_zero.true in
    Refuses_zero g.S.Source.sight _ _ _ c.accept-negative.result _ _ c.requires.begins c.accept-negative.ensures.accepts
    c.in_ok-digits.ensures.reads empty zero

pub returns-clause-reads : goal.returns-clause-reads
returns-clause-reads g c =
    let empty : string_bytes c.accept-negative.new.self.digit_buffer ≡ [] = ap string_bytes c.accept-negative.ensures.kept
    ∙ c.requires.empty in
    let zero : has_leading_zero (string_bytes c.digits.new.self.digit_buffer) ≡ false = ap has_leading_zero (sym c.as_bytes.ensures.value)
    ∙ sym c.has_leading_zero.ensures ∙ c.if-has_leading_zero.false in
    Part_integer g.S.Source.sight _ _ _ c.accept-negative.result _ _ c.requires.begins c.accept-negative.ensures.accepts
    c.in_ok-digits.ensures.reads empty zero
