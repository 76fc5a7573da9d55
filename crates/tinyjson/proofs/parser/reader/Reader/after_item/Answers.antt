use Rattle.std.proofs.Common.{rules, ◌∷◌, inl}
use Rattle.tinyjson_grammar.specs.Machine.{in_array, after}
use Rattle.tinyjson_grammar.specs.declared.error.JsonParseErrorKind.TheVariants.{UnexpectedEof, ExpectedCommaOrBracket}
use Rattle.tinyjson_tokens.proofs.Callers.{end_after, white_after, Leads_whites, Leads_one, Leads_end, Refuses_as, taken_complete}
use Rattle.tinyjson.proofs.Reading.Building.{within}
use Rattle.tinyjson.proofs.Reading.Containers.{array_comma, array_closes, array_other}
use Rattle.tinyjson.proofs.Reading.Loop.{awaits, joined}
use Rattle.tinyjson.proofs.Reading.Left.{left_kept, open_at_error}
use Rattle.tinyjson.proofs.parser.reader.Reader.after_item.Goals as goal

pub returns-in-Some-eq44-clause-reads : goal.returns-in-Some-eq44-clause-reads
returns-in-Some-eq44-clause-reads g c = λ start limit ts fs h.
    let sight = g.S.Source.sight in
    awaits (g.E.Events.holds start) (g.E.Events.is start) sight limit _ _ (in_array ts ∷ fs) c.args.nest.now
    (Leads_one sight limit _ _ _ 44 (Leads_whites sight limit _ _ _ c.skip_white.ensures.white tt (white_after limit _))
    c.consume.ensures.takes tt (array_comma limit fs ts 44 (search rules)) tt) h

pub returns-in-Some-eq93-clause-reads : goal.returns-in-Some-eq93-clause-reads
returns-in-Some-eq93-clause-reads g c = λ start limit ts fs h.
    let sight = g.S.Source.sight in
    let holds = g.E.Events.holds start in
    joined holds (g.E.Events.is start) sight limit _ _ (in_array ts ∷ fs) after _ c.close_array.new.self
    (Leads_one sight limit _ _ _ 93 (Leads_whites sight limit _ _ _ c.skip_white.ensures.white tt (white_after limit _))
    c.consume-in-Some-eq93.ensures.takes tt (array_closes limit fs ts 93 (search rules)) (taken_complete _ _))
    (c.close_array.ensures.joins start ts fs (within holds c.args.nest.now (in_array ts) fs h))

pub returns-in-Some-clause-reads : goal.returns-in-Some-clause-reads
returns-in-Some-clause-reads g c = λ start limit ts fs h.
    let sight = g.S.Source.sight in
    let d = c.in-Some.c in
    Refuses_as sight limit _ _ (ExpectedCommaOrBracket d)
    (Leads_one sight limit _ _ _ d (Leads_whites sight limit _ _ _ c.skip_white.ensures.white tt (white_after limit _))
    c.consume-in-Some.ensures.takes tt
    (array_other limit fs ts d c.in-Some.ensures.stops (search rules) (search rules)) tt)

pub returns-in-None-clause-reads : goal.returns-in-None-clause-reads
returns-in-None-clause-reads g c = λ start limit ts fs h.
    let sight = g.S.Source.sight in
    Refuses_as sight limit _ _ UnexpectedEof
    (Leads_end sight limit _ _ (Leads_whites sight limit _ _ _ c.skip_white.ensures.white tt (white_after limit _))
    c.in-None.ensures.shows (end_after limit _) tt)

pub returns-in-Some-eq93-clause-some : goal.returns-in-Some-eq93-clause-some
returns-in-Some-eq93-clause-some g c = λ start ts fs h.
    left_kept (g.E.Events.holds start) (g.E.Events.is start) _ c.args.nest.now c.close_array.new.self
    (inl (in_array ts ∷ fs, h.0)) h.2 c.close_array.ensures.kept

pub returns-in-Some-clause-some : goal.returns-in-Some-clause-some
returns-in-Some-clause-some g c = λ start ts fs h.
    open_at_error (g.E.Events.holds start) (g.E.Events.is start) _ c.args.nest.now (in_array ts ∷ fs) h

pub returns-in-None-clause-some : goal.returns-in-None-clause-some
returns-in-None-clause-some g c = λ start ts fs h.
    open_at_error (g.E.Events.holds start) (g.E.Events.is start) _ c.args.nest.now (in_array ts ∷ fs) h
