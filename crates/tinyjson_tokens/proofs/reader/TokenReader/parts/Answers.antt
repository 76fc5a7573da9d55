use Rattle.std.proofs.Common.{rules}
use Rattle.std.proofs.lemmas.Result.{err_from_is_err_and}
use Rattle.tinyjson_tokens.proofs.Reading.Steps.{Refuses_after}
use Rattle.tinyjson_tokens.proofs.Reading.NumberParts.{Part_fraction, Part_number}
use Rattle.tinyjson_tokens.proofs.reader.TokenReader.parts.Goals as goal

pub returns-in_err-fraction-clause-reads : goal.returns-in_err-fraction-clause-reads
returns-in_err-fraction-clause-reads g c =
    let r = c.from_residual-in_err-fraction in
    let p = err_from_is_err_and r.result r.ensures.1 in
    let i = c.in_ok-negative.ensures.reads in
    rw (p.1, p.2) (λ limit fs. Refuses_after g.S.Source.sight limit _ _ _ _ (i.leads limit fs)
    (c.in_err-fraction.ensures.reads i.part.0 i.part.1 i.has i.ends limit fs))

pub returns-in_err-exponent-clause-reads : goal.returns-in_err-exponent-clause-reads
returns-in_err-exponent-clause-reads g c =
    let sight = g.S.Source.sight in
    let r = c.from_residual-in_err-exponent in
    let p = err_from_is_err_and r.result r.ensures.1 in
    let f = Part_fraction sight _ _ _ _ _ c.in_ok-negative.ensures.reads c.len-integer.result
    (search rules) c.in_ok-fraction.ensures.reads in
    rw (p.1, p.2) (λ limit fs. Refuses_after sight limit _ _ _ _ (f.leads limit fs)
    (c.in_err-exponent.ensures.reads f.part.0 f.part.1 f.part.2 f.has f.ends limit fs))

pub returns-clause-reads : goal.returns-clause-reads
returns-clause-reads g c =
    let sight = g.S.Source.sight in
    let f = Part_fraction sight _ _ _ _ _ c.in_ok-negative.ensures.reads c.len-integer.result
    (search rules) c.in_ok-fraction.ensures.reads in
    Part_number sight _ _ _ _ _ f c.len-fraction.result (search rules) c.in_ok-exponent.ensures.reads
