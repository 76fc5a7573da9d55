use Rattle.std.proofs.Common.{Ok, Err}
use Rattle.std.proofs.lemmas.Result.{err_from_is_err_and}
use Rattle.tinyjson_tokens.proofs.Callers.{Leads_nil, Refuses_after}
use Rattle.tinyjson.proofs.Reading.Loop.{Builds_after, Continues_after, Continues_from, complete_at, ends, open_at}
use Rattle.tinyjson.proofs.Reading.Left.{left_complete}
use Rattle.tinyjson.proofs.parser.reader.Reader.rest.Goals as goal

pub loop-progress-init : goal.loop-progress-init
loop-progress-init g c = λ start n h. (n, Leads_nil g.S.Source.sight c.args.limit _ n, h)

pub next-requires : goal.next-requires
next-requires g c =
    let start = c.requires.sound.0 in
    let i = c.loop-progress.invariant start c.requires.sound.1 c.requires.sound.2 in
    let w = open_at (g.E.Events.holds start)
    (g.E.Events.is start) g.S.Source.sight c.args.limit c.loop-progress.nest _ _ c.in-Awaits.is i.2 in
    record { «open» = (start, w.0, w.2) }

pub after-requires-clause-sound : goal.after-requires-clause-sound
after-requires-clause-sound g c =
    let start = c.requires.sound.0 in
    let i = c.loop-progress.invariant start c.requires.sound.1 c.requires.sound.2 in (
      start,
      i.0,
      complete_at (g.E.Events.holds start)
          (g.E.Events.is start) g.S.Source.sight c.args.limit c.loop-progress.nest _ _ c.in-Complete.is i.2,
    )

pub returns-in_err-progress-in-Awaits-clause-reads : goal.returns-in_err-progress-in-Awaits-clause-reads
returns-in_err-progress-in-Awaits-clause-reads g c = λ start n h.
    let holds = g.E.Events.holds start in
    let is = g.E.Events.is start in
    let sight = g.S.Source.sight in
    let limit = c.args.limit in
    let p = err_from_is_err_and c.from_residual.result c.from_residual.ensures.1 in
    let i = c.loop-progress.invariant start n h in
    let w = open_at holds is sight limit c.loop-progress.nest _ _ c.in-Awaits.is i.2 in
    rw (p.1, p.2) (Refuses_after sight limit _ _ _ _ i.1
    (Continues_from holds is sight limit _ _ (Err _) c.next.new.nest w.1 (c.in_err-progress-in-Awaits.ensures.reads start w.0 w.2)))

pub loop-progress-preserved-in_ok-progress-in-Awaits : goal.loop-progress-preserved-in_ok-progress-in-Awaits
loop-progress-preserved-in_ok-progress-in-Awaits g c = λ start n h.
    let holds = g.E.Events.holds start in
    let is = g.E.Events.is start in
    let sight = g.S.Source.sight in
    let limit = c.args.limit in
    let i = c.loop-progress.invariant start n h in
    let w = open_at holds is sight limit c.loop-progress.nest _ _ c.in-Awaits.is i.2 in
    Continues_after holds is sight limit _ _ _ (Ok c.in_ok-progress-in-Awaits.progress) c.next.new.nest i.1
    (Continues_from holds is sight limit _ _ (Ok c.in_ok-progress-in-Awaits.progress) c.next.new.nest w.1
    (c.in_ok-progress-in-Awaits.ensures.reads start w.0 w.2))

pub returns-in_err-progress-in-Some-clause-reads : goal.returns-in_err-progress-in-Some-clause-reads
returns-in_err-progress-in-Some-clause-reads g c = λ start n h.
    let sight = g.S.Source.sight in
    let limit = c.args.limit in
    let r = c.from_residual-in_err-progress-in-Some in
    let p = err_from_is_err_and r.result r.ensures.1 in
    let i = c.loop-progress.invariant start n h in
    let w = complete_at (g.E.Events.holds start) (g.E.Events.is start) sight limit c.loop-progress.nest _ _ c.in-Complete.is i.2 in
    rw (p.1, p.2) (Refuses_after sight limit _ _ _ _ i.1 (c.in_err-progress-in-Some.ensures.reads start limit i.0 w))

pub loop-progress-preserved : goal.loop-progress-preserved
loop-progress-preserved g c = λ start n h.
    let holds = g.E.Events.holds start in
    let is = g.E.Events.is start in
    let sight = g.S.Source.sight in
    let limit = c.args.limit in
    let i = c.loop-progress.invariant start n h in
    let w = complete_at holds is sight limit c.loop-progress.nest _ _ c.in-Complete.is i.2 in
    Continues_after holds is sight limit _ _ _ (Ok c.in_ok-progress-in-Some.progress) c.after.new.nest i.1
    (c.in_ok-progress-in-Some.ensures.reads start limit i.0 w)

pub returns-in-None-clause-reads : goal.returns-in-None-clause-reads
returns-in-None-clause-reads g c = λ start n h.
    let holds = g.E.Events.holds start in
    let is = g.E.Events.is start in
    let sight = g.S.Source.sight in
    let limit = c.args.limit in
    let i = c.loop-progress.invariant start n h in
    let w = complete_at holds is sight limit c.loop-progress.nest _ _ c.in-Complete.is i.2 in
    Builds_after holds is sight limit _ _ _ _ c.loop-progress.nest i.1
    (ends holds is sight limit _ _ i.0 c.end.result c.loop-progress.nest w c.in-None.ensures (c.end.ensures.reads limit))

pub returns-in_err-progress-in-Awaits-clause-some : goal.returns-in_err-progress-in-Awaits-clause-some
returns-in_err-progress-in-Awaits-clause-some g c = λ start n h.
    let holds = g.E.Events.holds start in
    let is = g.E.Events.is start in
    let p = err_from_is_err_and c.from_residual.result c.from_residual.ensures.1 in
    let i = c.loop-progress.invariant start n h in
    let w = open_at holds is g.S.Source.sight c.args.limit c.loop-progress.nest _ _ c.in-Awaits.is i.2 in
    rw (p.1, p.2) (c.in_err-progress-in-Awaits.ensures.some start w.0 w.2)

pub returns-in_err-progress-in-Some-clause-some : goal.returns-in_err-progress-in-Some-clause-some
returns-in_err-progress-in-Some-clause-some g c = λ start n h.
    let r = c.from_residual-in_err-progress-in-Some in
    let p = err_from_is_err_and r.result r.ensures.1 in
    let i = c.loop-progress.invariant start n h in
    let w = complete_at (g.E.Events.holds start)
    (g.E.Events.is start) g.S.Source.sight c.args.limit c.loop-progress.nest _ _ c.in-Complete.is i.2 in
    rw (p.1, p.2) (c.in_err-progress-in-Some.ensures.some start i.0 w)

pub returns-in-None-clause-some : goal.returns-in-None-clause-some
returns-in-None-clause-some g c = λ start n h.
    let holds = g.E.Events.holds start in
    let is = g.E.Events.is start in
    let i = c.loop-progress.invariant start n h in
    let w = complete_at holds is g.S.Source.sight c.args.limit c.loop-progress.nest _ _ c.in-Complete.is i.2 in
    left_complete holds is _ c.loop-progress.nest i.0 w c.in-None.ensures
