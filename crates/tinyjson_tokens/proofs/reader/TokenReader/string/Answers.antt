use Rattle.tinyjson_tokens.proofs.Reading.Steps.{Reads_after}
use Rattle.tinyjson_tokens.proofs.Reading.Begins.{Leads_quote}
use Rattle.tinyjson_tokens.proofs.reader.TokenReader.string.Goals as goal

pub returns-clause-reads : goal.returns-clause-reads
returns-clause-reads g c = λ limit fs.
    let sight = g.S.Source.sight in
    Reads_after sight limit _ _ _ _ _ (Leads_quote sight limit _ _ fs c.consume.ensures.takes) (c.after_quote.ensures.reads limit fs)
