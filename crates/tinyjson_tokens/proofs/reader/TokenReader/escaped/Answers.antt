use Rattle.tinyjson_tokens.proofs.Reading.Steps.{Reads_after, Refuses_memory}
use Rattle.tinyjson_tokens.proofs.reader.TokenReader.escaped.Goals as goal

pub returns-in-Ok-clause-reads : goal.returns-in-Ok-clause-reads
returns-in-Ok-clause-reads g c = λ limit fs. Reads_after g.S.Source.sight limit _ _ _ _ _ (c.in-Ok.ensures.reads limit fs)
    (c.rest.ensures.reads limit fs)

pub returns-in-Err-clause-reads : goal.returns-in-Err-clause-reads
returns-in-Err-clause-reads g c = λ limit fs. Refuses_memory g.S.Source.sight limit _ _ (c.in-Err.ensures.reads limit fs)
