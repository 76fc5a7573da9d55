use Rattle.tinyjson_tokens.proofs.Reading.String.{plain_reads}
use Rattle.tinyjson_tokens.proofs.tokens.Tokens.escaped.Goals as goal

pub returns-clause-reads : goal.returns-clause-reads
returns-clause-reads g c = λ limit fs. plain_reads g.Self.Source.sight limit _ _ fs _ _ _ c.plain.ensures.plain
