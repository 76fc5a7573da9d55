use Rattle.std.proofs.Common.{◌==◌, [], None, string_bytes, sym, subst}
use Rattle.tinyjson_number.specs.Numeral.{numeral}
use Rattle.tinyjson_tokens.specs.NumberSteps.{Gathered}
use Rattle.tinyjson_tokens.proofs.Reading.Number.{was_accepted, was_declined}
use Rattle.tinyjson_tokens.proofs.Reading.NumberParts.{Part_no_fraction, Reads_fraction}
use Rattle.tinyjson_tokens.proofs.reader.TokenReader.fraction.Goals as goal

pub returns-then-not-accept-clause-reads : goal.returns-then-not-accept-clause-reads
returns-then-not-accept-clause-reads g c = λ b ds s e.
    let has = subst (λ l. Gathered (numeral b ds [] None) (string_bytes l)) (sym c.accept.ensures.kept) s in
    Part_no_fraction g.S.Source.sight _ _ b ds _ has e (was_declined g.S.Source.sight
    (λ x. x == 46) _ _ c.accept.result c.accept.ensures.accepts c.if-not-accept.true)

pub returns-clause-reads : goal.returns-clause-reads
returns-clause-reads g c = λ b ds s e.
    let has = subst (λ l. Gathered (numeral b ds [] None) (string_bytes l)) (sym c.accept.ensures.kept) s in
    Reads_fraction g.S.Source.sight _ _ b ds _ has _ _ (was_accepted g.S.Source.sight
    (λ x. x == 46) _ _ c.accept.result c.accept.ensures.accepts c.if-not-accept.false) c.digits.result c.digits.ensures.reads
