use Rattle.std.proofs.Common.{◌≡◌, Err, subst, rules}
use Rattle.tinyjson_number.specs.Reading.{ReadsNumeral}
use Rattle.tinyjson_number.specs.declared.error.LiteralError.TheVariants.{OutOfRange}
use Rattle.tinyjson_tokens.proofs.Reading.Steps.{Halts_here, Refuses_memory}
use Rattle.tinyjson_tokens.proofs.Reading.NumberParts.{Leads_number, Refuses_range, marks_within}
use Rattle.tinyjson_tokens.proofs.reader.TokenReader.gathered_number.Goals as goal

pub gathered-requires-clause-order : goal.gathered-requires-clause-order
gathered-requires-clause-order g c = let n = c.in_ok-marks.ensures.reads in (marks_within n.part _ _ n.has n.answers).0

pub gathered-requires-clause-within : goal.gathered-requires-clause-within
gathered-requires-clause-within g c = let n = c.in_ok-marks.ensures.reads in (marks_within n.part _ _ n.has n.answers).1

pub gathered-requires-clause-gathered : goal.gathered-requires-clause-gathered
gathered-requires-clause-gathered g c = let n = c.in_ok-marks.ensures.reads in (n.part, n.has, n.answers)

pub returns-in-Ok-clause-reads : goal.returns-in-Ok-clause-reads
returns-in-Ok-clause-reads g c = λ limit fs.
    let n = c.in_ok-marks.ensures.reads in
    Leads_number g.S.Source.sight limit fs _ _ _ n c.in-Ok.number (c.in-Ok.ensures n.part n.has n.answers)

pub returns-in-Err-OutOfRange-clause-reads : goal.returns-in-Err-OutOfRange-clause-reads
returns-in-Err-OutOfRange-clause-reads g c = λ limit fs.
    let n = c.in_ok-marks.ensures.reads in
    let e : c.in-Err-OutOfRange.field-0 ≡ OutOfRange = search rules in
    let r = subst (λ x. ReadsNumeral n.part (Err x)) e (c.in-Err-OutOfRange.ensures n.part n.has n.answers) in
    Refuses_range g.S.Source.sight limit fs _ _ _ n r

pub returns-in-Err-OutOfMemory-clause-reads : goal.returns-in-Err-OutOfMemory-clause-reads
returns-in-Err-OutOfMemory-clause-reads g c = λ limit fs.
    let sight = g.S.Source.sight in
    let n = c.in_ok-marks.ensures.reads in
    Refuses_memory sight limit _ _ (Halts_here sight limit _ _ (n.leads limit fs) tt tt)
