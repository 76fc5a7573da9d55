use Rattle.std.proofs.Common.{◌∷◌}
use Rattle.std.proofs.lemmas.Result.{err_from_is_err_and}
use Rattle.tinyjson_grammar.specs.Machine.{at_key}
use Rattle.tinyjson_tokens.proofs.Callers.{Leads_whites, Leads_trans, Refuses_after, white_awaited}
use Rattle.tinyjson.proofs.Reading.Loop.{awaits, Continues_after}
use Rattle.tinyjson.proofs.Reading.Left.{left_open}
use Rattle.tinyjson.proofs.parser.reader.Reader.key.Goals as goal

pub returns-in_err-lent-in-Some-eq34-clause-reads : goal.returns-in_err-lent-in-Some-eq34-clause-reads
returns-in_err-lent-in-Some-eq34-clause-reads g c = λ start limit ms fs h.
    let sight = g.S.Source.sight in
    let p = err_from_is_err_and c.from_residual.result c.from_residual.ensures.1 in
    let q = Leads_whites sight limit _ _ _ c.skip_white.ensures.white tt (white_awaited limit _) in
    rw (p.1, p.2) (Refuses_after sight limit _ _ _ _ q (c.in_err-lent-in-Some-eq34.ensures.reads limit (at_key ms ∷ fs)))

pub returns-in_ok-lent-in-Some-eq34-clause-reads : goal.returns-in_ok-lent-in-Some-eq34-clause-reads
returns-in_ok-lent-in-Some-eq34-clause-reads g c = λ start limit ms fs h.
    let sight = g.S.Source.sight in
    let q = Leads_whites sight limit _ _ _ c.skip_white.ensures.white tt (white_awaited limit _) in
    Continues_after (g.E.Events.holds start) (g.E.Events.is start) sight limit _ _ _ _ c.colon.new.nest
    (Leads_trans sight limit _ _ _ q (c.in_ok-lent-in-Some-eq34.ensures.reads limit (at_key ms ∷ fs)))
    (c.colon.ensures.reads start limit ms fs h)

pub returns-in_default-clause-reads : goal.returns-in_default-clause-reads
returns-in_default-clause-reads g c = λ start limit ms fs h.
    awaits (g.E.Events.holds start) (g.E.Events.is start) g.S.Source.sight limit _ _ (at_key ms ∷ fs) c.args.nest.now
    (Leads_whites g.S.Source.sight limit _ _ _ c.skip_white.ensures.white tt (white_awaited limit _)) h

pub returns-in_default-2-clause-reads : goal.returns-in_default-2-clause-reads
returns-in_default-2-clause-reads g c = λ start limit ms fs h.
    awaits (g.E.Events.holds start) (g.E.Events.is start) g.S.Source.sight limit _ _ (at_key ms ∷ fs) c.args.nest.now
    (Leads_whites g.S.Source.sight limit _ _ _ c.skip_white.ensures.white tt (white_awaited limit _)) h

pub returns-in_err-lent-in-Some-eq34-clause-some : goal.returns-in_err-lent-in-Some-eq34-clause-some
returns-in_err-lent-in-Some-eq34-clause-some g c = λ start ms fs h.
    left_open (g.E.Events.holds start) (g.E.Events.is start) _ c.args.nest.now (at_key ms ∷ fs) h
