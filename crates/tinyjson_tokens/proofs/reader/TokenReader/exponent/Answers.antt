use Rattle.std.proofs.Common.{None, string_bytes, sym, subst, ◌∙◌}
use Rattle.std.proofs.lemmas.Result.{err_from_is_err_and}
use Rattle.tinyjson_number.specs.Numeral.{numeral, is_exponent_letter}
use Rattle.tinyjson_tokens.specs.NumberSteps.{Gathered}
use Rattle.tinyjson_tokens.proofs.Reading.Number.{was_accepted, was_declined}
use Rattle.tinyjson_tokens.proofs.Reading.NumberParts.{Part_no_exponent, Part_exponent, Refuses_exponent}
use Rattle.tinyjson_tokens.proofs.reader.TokenReader.exponent.Goals as goal

pub returns-then-not-letter-clause-reads : goal.returns-then-not-letter-clause-reads
returns-then-not-letter-clause-reads g c = λ b ds f s e.
    let has = subst (λ l. Gathered (numeral b ds f None) (string_bytes l)) (sym c.letter.ensures.kept) s in
    Part_no_exponent g.S.Source.sight _ _ b ds f _ has e (was_declined g.S.Source.sight is_exponent_letter _ _ c.letter.result
    c.letter.ensures.accepts c.if-not-letter.true)

pub returns-in_err-digits-clause-reads : goal.returns-in_err-digits-clause-reads
returns-in_err-digits-clause-reads g c = λ b ds f s e.
    let has = subst (λ l. Gathered (numeral b ds f None) (string_bytes l)) (sym (c.sign-negative.ensures.kept ∙ c.letter.ensures.kept)) s in
    let letter = was_accepted g.S.Source.sight is_exponent_letter _ _ c.letter.result c.letter.ensures.accepts c.if-not-letter.false in
    let p = err_from_is_err_and c.from_residual.result c.from_residual.ensures.1 in
    rw (p.1, p.2) (Refuses_exponent g.S.Source.sight _ _ b ds f _ has _ _ _ letter c.sign-negative.result c.sign-negative.ensures.signs _
    c.in_err-digits.ensures.reads)

pub returns-clause-reads : goal.returns-clause-reads
returns-clause-reads g c = λ b ds f s e.
    let has = subst (λ l. Gathered (numeral b ds f None) (string_bytes l)) (sym (c.sign-negative.ensures.kept ∙ c.letter.ensures.kept)) s in
    let letter = was_accepted g.S.Source.sight is_exponent_letter _ _ c.letter.result c.letter.ensures.accepts c.if-not-letter.false in
    Part_exponent g.S.Source.sight _ _ b ds f _ has _ _ _ letter c.sign-negative.result c.sign-negative.ensures.signs
    c.in_ok-digits.ensures.reads
