use Rattle.std.proofs.Common.{[]}
use Rattle.std.proofs.lemmas.Result.{err_from_is_err_and}
use Rattle.tinyjson.proofs.Reading.Loop.{Builds_after}
use Rattle.tinyjson.proofs.parser.reader.Reader.build.Goals as goal

pub value-requires-clause-open : goal.value-requires-clause-open
value-requires-clause-open g c = (c.requires.open.0, [], c.requires.open.1)

pub rest-requires : goal.rest-requires
rest-requires g c =
    let w = c.in_ok-progress.ensures.reads c.requires.open.0 [] c.requires.open.1 in
    record { sound = (c.requires.open.0, w.0, w.2) }

pub returns-in_err-progress-clause-reads : goal.returns-in_err-progress-clause-reads
returns-in_err-progress-clause-reads g c = λ start h.
    let p = err_from_is_err_and c.from_residual.result c.from_residual.ensures.1 in
    rw (p.1, p.2) (c.in_err-progress.ensures.reads start [] h)

pub returns-clause-reads : goal.returns-clause-reads
returns-clause-reads g c = λ start h.
    let w = c.in_ok-progress.ensures.reads start [] h in
    Builds_after (g.E.Events.holds start) (g.E.Events.is start) g.S.Source.sight c.args.limit _ _ _ _ c.rest.new.nest w.1
    (c.rest.ensures.reads start w.0 w.2)

pub returns-in_err-progress-clause-some : goal.returns-in_err-progress-clause-some
returns-in_err-progress-clause-some g c = λ start h.
    let p = err_from_is_err_and c.from_residual.result c.from_residual.ensures.1 in
    rw (p.1, p.2) (c.in_err-progress.ensures.some start [] h)

pub returns-clause-some : goal.returns-clause-some
returns-clause-some g c = λ start h.
    let w = c.in_ok-progress.ensures.reads start [] h in
    c.rest.ensures.some start w.0 w.2
