use Rattle.tinyjson_grammar.specs.declared.error.JsonParseErrorKind.TheVariants.{UnexpectedEof}
use Rattle.tinyjson_tokens.proofs.Callers.{end_awaited, Leads_whites, Leads_end, Refuses_as, white_awaited}
use Rattle.tinyjson.proofs.Reading.Loop.{Continues_after}
use Rattle.tinyjson.proofs.Reading.Left.{open_at_error}
use Rattle.tinyjson.proofs.parser.reader.Reader.next.Goals as goal

pub returns-in-Some-clause-reads : goal.returns-in-Some-clause-reads
returns-in-Some-clause-reads g c = λ start fs h.
    let sight = g.S.Source.sight in
    let limit = c.args.limit in
    Continues_after (g.E.Events.holds start) (g.E.Events.is start) sight limit _ _ _ _ c.value.new.nest
    (Leads_whites sight limit _ _ _ c.skip_white.ensures.white tt (white_awaited limit _)) (c.value.ensures.reads start fs h)

pub returns-in-None-clause-reads : goal.returns-in-None-clause-reads
returns-in-None-clause-reads g c = λ start fs h.
    let sight = g.S.Source.sight in
    let limit = c.args.limit in
    Refuses_as sight limit _ _ UnexpectedEof
    (Leads_end sight limit _ _ (Leads_whites sight limit _ _ _ c.skip_white.ensures.white tt (white_awaited limit _))
    c.in-None.ensures.shows (end_awaited limit _) tt)

pub returns-in-None-clause-some : goal.returns-in-None-clause-some
returns-in-None-clause-some g c = λ start fs h. open_at_error (g.E.Events.holds start) (g.E.Events.is start) _ c.args.nest.now fs h
