use Rattle.std.proofs.Common.{refl}
use Rattle.std.proofs.lemmas.Result.{err_from_is_err_and}
use Rattle.tinyjson_grammar.specs.Machine.{awaited}
use Rattle.tinyjson.proofs.Reading.Loop.{joined}
use Rattle.tinyjson.proofs.Reading.Left.{same_events}
use Rattle.tinyjson.proofs.parser.reader.Reader.literal.Goals as goal

pub returns-in_err-literal-clause-reads : goal.returns-in_err-literal-clause-reads
returns-in_err-literal-clause-reads g c = λ start limit fs h.
    let p = err_from_is_err_and c.from_residual.result c.from_residual.ensures.1 in
    rw (p.1, p.2) (c.in_err-literal.ensures.reads limit fs)

pub returns-clause-reads : goal.returns-clause-reads
returns-clause-reads g c = λ start limit fs h.
    joined (g.E.Events.holds start) (g.E.Events.is start) g.S.Source.sight limit _ _ fs awaited _ c.literal-2.new.self
    (c.in_ok-literal.ensures.reads limit fs) (c.literal-2.ensures.joins start fs h)

pub returns-in_err-literal-clause-kept : goal.returns-in_err-literal-clause-kept
returns-in_err-literal-clause-kept g c = same_events _ c.args.nest.now c.args.nest.now refl refl
