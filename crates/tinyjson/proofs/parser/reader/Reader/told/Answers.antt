use Rattle.std.proofs.Common.{◌≡◌, [], subst}
use Rattle.tinyjson_grammar.specs.Machine.{awaited, next}
use Rattle.tinyjson_grammar.specs.declared.error.JsonParseErrorKind.TheVariants.{OutOfMemory}
use Rattle.tinyjson_tokens.specs.Steps.{Refuses}
use Rattle.tinyjson.specs.private.Building.{Leaves}
use Rattle.tinyjson.proofs.parser.reader.Reader.told.Goals as goal

pub returns-in-Some-clause-reads : goal.returns-in-Some-clause-reads
returns-in-Some-clause-reads g c =
    let start = c.args.events in
    let e = c.in-Err in
    let memory : e.kind ≡ OutOfMemory =
    subst (λ o. Leaves (g.E.Events.holds start) (g.E.Events.is start) e.kind o e.events) c.in-Some.is e.ensures.some in (
      tt,
      subst (λ k. Refuses g.S.Source.sight c.args.limit c.args.self.now.tokens.source (next [] awaited) k c.tell.new.self.tokens.source)
          memory e.ensures.reads,
    )

pub returns-in-Some-clause-memory : goal.returns-in-Some-clause-memory
returns-in-Some-clause-memory g c =
    let start = c.args.events in
    let e = c.in-Err in
    let memory : e.kind ≡ OutOfMemory =
    subst (λ o. Leaves (g.E.Events.holds start) (g.E.Events.is start) e.kind o e.events) c.in-Some.is e.ensures.some in
    λ _. e.ensures.memory memory

pub returns-in-None-clause-reads : goal.returns-in-None-clause-reads
returns-in-None-clause-reads g c = (c.position-line.ensures, c.in-Err.ensures.reads)

pub returns-in-None-clause-back : goal.returns-in-None-clause-back
returns-in-None-clause-back g c =
    let start = c.args.events in
    let e = c.in-Err in
    subst (λ o. Leaves (g.E.Events.holds start) (g.E.Events.is start) e.kind o e.events) c.in-None.is e.ensures.some
