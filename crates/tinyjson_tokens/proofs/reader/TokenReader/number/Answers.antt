use Rattle.std.proofs.Common.{refl}
use Rattle.tinyjson_tokens.proofs.Reading.Numerals.{Leads_numeral, decimal_read}
use Rattle.tinyjson_tokens.proofs.reader.TokenReader.number.Goals as goal

pub returns-in-Some-clause-reads : goal.returns-in-Some-clause-reads
returns-in-Some-clause-reads g c = λ limit fs.
    let n = c.in-Some.ensures.takes in
    let d = decimal_read n.0 n.2.grammatical.well_formed c.in-Some.number (g.S.Source.lent c.in-Some.after) n.1 in
    (d.0, d.1, Leads_numeral g.S.Source.sight c.args.self.now.source c.in-Some.after n.0 n.2 limit fs d.0 d.2)

pub returns-in-Ok-clause-reads : goal.returns-in-Ok-clause-reads
returns-in-Ok-clause-reads g c = λ limit fs. (c.in-Ok.number, refl, c.in-Ok.ensures.reads limit fs)
