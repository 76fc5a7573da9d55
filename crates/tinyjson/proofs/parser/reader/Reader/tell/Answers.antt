use Rattle.std.proofs.Common.{rules, []}
use Rattle.tinyjson_grammar.specs.declared.error.JsonParseErrorKind.TheVariants.{UnexpectedEof}
use Rattle.tinyjson_tokens.proofs.Callers.{end_awaited, Leads_end, Leads_whites, Refuses_as, white_awaited}
use Rattle.tinyjson_grammar.specs.Characters.{BeginsLiteral}
use Rattle.tinyjson.proofs.Reading.Events.{literal_meets, grows_meets, Tells_after}
use Rattle.tinyjson.proofs.parser.reader.Reader.tell.Goals as goal

pub returns-in-Some-n-clause-reads : goal.returns-in-Some-n-clause-reads
returns-in-Some-n-clause-reads g c =
    let sight = g.S.Source.sight in
    let limit = c.args.limit in
    let l = Leads_whites sight limit _ _ _ c.skip_white.ensures.white tt (white_awaited limit []) in
    Tells_after sight limit (g.E.Events.is c.args.events) _ _ _ c.tell_literal.result l (c.tell_literal.ensures.reads limit)

pub returns-in-Some-n-clause-memory : goal.returns-in-Some-n-clause-memory
returns-in-Some-n-clause-memory g c =
    let begins : BeginsLiteral c.in-Some-n.first = search rules in
    literal_meets g.S.Source.sight _ _ c.in-Some-n.first c.tell_literal.result c.skip_white.ensures.white c.in-Some-n.ensures.shows begins

pub returns-in-Some-clause-reads : goal.returns-in-Some-clause-reads
returns-in-Some-clause-reads g c =
    let sight = g.S.Source.sight in
    let limit = c.args.limit in
    let l = Leads_whites sight limit _ _ _ c.skip_white.ensures.white tt (white_awaited limit []) in
    Tells_after sight limit (g.E.Events.is c.args.events) _ _ _ c.tell_value.result l c.tell_value.ensures.reads

pub returns-in-Some-clause-memory : goal.returns-in-Some-clause-memory
returns-in-Some-clause-memory g c = grows_meets g.S.Source.sight _ _ c.in-Some.first c.tell_value.result c.skip_white.ensures.white
    c.in-Some.ensures.shows c.tell_value.ensures.memory

pub returns-in-None-clause-reads : goal.returns-in-None-clause-reads
returns-in-None-clause-reads g c =
    let sight = g.S.Source.sight in
    let limit = c.args.limit in
    Refuses_as sight limit _ _ UnexpectedEof
    (Leads_end sight limit _ _ (Leads_whites sight limit _ _ _ c.skip_white.ensures.white tt (white_awaited limit []))
    c.in-None.ensures.shows (end_awaited limit _) tt)
