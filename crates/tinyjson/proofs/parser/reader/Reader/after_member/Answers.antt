use Rattle.std.proofs.Common.{rules, ◌∷◌, inl}
use Rattle.tinyjson_grammar.specs.Machine.{at_key, after}
use Rattle.tinyjson_grammar.specs.declared.error.JsonParseErrorKind.TheVariants.{UnexpectedEof, ExpectedCommaOrBrace}
use Rattle.tinyjson_tokens.proofs.Callers.{end_after, white_after, Leads_whites, Leads_one, Leads_end, Refuses_as}
use Rattle.tinyjson_tokens.proofs.Callers.{taken_complete}
use Rattle.tinyjson.proofs.Reading.Containers.{object_comma, object_closes, object_other}
use Rattle.tinyjson.proofs.Reading.Loop.{Continues_after, joined}
use Rattle.tinyjson.proofs.Reading.Left.{left_at, left_kept}
use Rattle.tinyjson.proofs.parser.reader.Reader.after_member.Goals as goal

pub returns-in-Some-eq44-clause-reads : goal.returns-in-Some-eq44-clause-reads
returns-in-Some-eq44-clause-reads g c = λ start limit ms fs h.
    let sight = g.S.Source.sight in
    Continues_after (g.E.Events.holds start) (g.E.Events.is start) sight limit _ _ _ _ c.key.new.nest
    (Leads_one sight limit _ _ _ 44 (Leads_whites sight limit _ _ _ c.skip_white.ensures.white tt (white_after limit _))
    c.consume.ensures.takes tt (object_comma limit fs ms 44 (search rules)) tt)
    (c.key.ensures.reads start limit ms fs (search rules))

pub returns-in-Some-eq125-clause-reads : goal.returns-in-Some-eq125-clause-reads
returns-in-Some-eq125-clause-reads g c = λ start limit ms fs h.
    let sight = g.S.Source.sight in
    joined (g.E.Events.holds start) (g.E.Events.is start) sight limit _ _ (at_key ms ∷ fs) after _ c.close_object.new.self
    (Leads_one sight limit _ _ _ 125 (Leads_whites sight limit _ _ _ c.skip_white.ensures.white tt (white_after limit _))
    c.consume-in-Some-eq125.ensures.takes tt (object_closes limit fs ms 125 (search rules)) (taken_complete _ _))
    (c.close_object.ensures.joins start ms fs h)

pub returns-in-Some-clause-reads : goal.returns-in-Some-clause-reads
returns-in-Some-clause-reads g c = λ start limit ms fs h.
    let sight = g.S.Source.sight in
    let d = c.in-Some.c in
    Refuses_as sight limit _ _ (ExpectedCommaOrBrace d)
    (Leads_one sight limit _ _ _ d (Leads_whites sight limit _ _ _ c.skip_white.ensures.white tt (white_after limit _))
    c.consume-in-Some.ensures.takes tt
    (object_other limit fs ms d c.in-Some.ensures.stops (search rules) (search rules)) tt)

pub returns-in-None-clause-reads : goal.returns-in-None-clause-reads
returns-in-None-clause-reads g c = λ start limit ms fs h.
    let sight = g.S.Source.sight in
    Refuses_as sight limit _ _ UnexpectedEof
    (Leads_end sight limit _ _ (Leads_whites sight limit _ _ _ c.skip_white.ensures.white tt (white_after limit _))
    c.in-None.ensures.shows (end_after limit _) tt)

pub returns-in-Some-eq125-clause-some : goal.returns-in-Some-eq125-clause-some
returns-in-Some-eq125-clause-some g c = λ start ms fs h.
    left_kept (g.E.Events.holds start) (g.E.Events.is start) _ c.args.nest.now c.close_object.new.self
    (inl (at_key ms ∷ fs, h.0)) h.2 c.close_object.ensures.kept

pub returns-in-Some-clause-some : goal.returns-in-Some-clause-some
returns-in-Some-clause-some g c = λ start ms fs h.
    left_at (g.E.Events.holds start) (g.E.Events.is start) _ c.args.nest.now (inl (at_key ms ∷ fs, h.0)) h.2

pub returns-in-None-clause-some : goal.returns-in-None-clause-some
returns-in-None-clause-some g c = λ start ms fs h.
    left_at (g.E.Events.holds start) (g.E.Events.is start) _ c.args.nest.now (inl (at_key ms ∷ fs, h.0)) h.2
