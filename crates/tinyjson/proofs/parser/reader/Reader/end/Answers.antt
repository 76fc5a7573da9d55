use Rattle.tinyjson_grammar.specs.declared.error.JsonParseErrorKind.TheVariants.{ExpectedEof}
use Rattle.tinyjson_tokens.proofs.Callers.{Leads_whites, Leads_one, Refuses_as, white_finished, no_end}
use Rattle.tinyjson.proofs.parser.reader.Reader.end.Goals as goal

pub returns-in-None-clause-reads : goal.returns-in-None-clause-reads
returns-in-None-clause-reads g c = λ limit t.
    Leads_whites g.S.Source.sight limit _ _ _ c.skip_white.ensures.white tt (white_finished limit t)

pub returns-in-Some-clause-reads : goal.returns-in-Some-clause-reads
returns-in-Some-clause-reads g c = λ limit t.
    let sight = g.S.Source.sight in
    Refuses_as sight limit _ _ (ExpectedEof c.in-Some.c)
    (Leads_one sight limit _ _ _ c.in-Some.c (Leads_whites sight limit _ _ _ c.skip_white.ensures.white tt (white_finished limit t))
    c.consume.ensures.takes tt (no_end limit t c.in-Some.c c.in-Some.ensures.stops) tt)
