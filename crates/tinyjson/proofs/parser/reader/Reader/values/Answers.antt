use Rattle.std.proofs.Common.{[], ap, sym}
use Rattle.std.proofs.lemmas.Result.{err_from_is_err_and}
use Rattle.tinyjson_grammar.specs.Machine.{next, finished}
use Rattle.tinyjson_tokens.proofs.Callers.{Leads_to}
use Rattle.tinyjson.proofs.parser.reader.Reader.values.Goals as goal

pub build-requires-clause-open : goal.build-requires-clause-open
build-requires-clause-open g c = (c.args.nest.now.events, c.requires.open)

pub take_complete-requires : goal.take_complete-requires
take_complete-requires g c =
    let w = c.in_ok-build.ensures.reads c.args.nest.now.events c.requires.open in
    (w.0, w.2)

pub returns-in_err-build-clause-reads : goal.returns-in_err-build-clause-reads
returns-in_err-build-clause-reads g c =
    let p = err_from_is_err_and c.from_residual.result c.from_residual.ensures.1 in
    rw (p.1, p.2) (c.in_err-build.ensures.reads c.args.nest.now.events c.requires.open)

pub returns-clause-reads : goal.returns-clause-reads
returns-clause-reads g c =
    let w = c.in_ok-build.ensures.reads c.args.nest.now.events c.requires.open in
    Leads_to g.S.Source.sight c.args.limit _ _ w.1 (ap (λ t. next [] (finished t)) (sym (c.take_complete.ensures w.0 w.2)))
