use Rattle.std.proofs.Common.{refl, inl}
use Rattle.std.proofs.lemmas.Result.{err_from_is_err_and}
use Rattle.tinyjson_grammar.specs.Tree.{object}
use Rattle.tinyjson.proofs.Reading.Building.{agree_popped, put_joins}
use Rattle.tinyjson.proofs.Reading.Left.{same_events, completed_keeps}
use Rattle.tinyjson.proofs.parser.nest.Nest.close_object.Goals as goal

pub returns-in_err-refuse_key-clause-joins : goal.returns-in_err-refuse_key-clause-joins
returns-in_err-refuse_key-clause-joins g c = λ start ms fs h.
    let p = c.pop in
    let a = agree_popped _ c.args.self.now.awaited.items p.new.self.items p.result fs c.args.self.now.awaited.ok.0 p.ensures.items p.ensures.variant h.1 in
    let r = err_from_is_err_and c.from_residual.result c.from_residual.ensures.1 in
    rw (r.1, r.2) (inl (c.in_err-refuse_key.ensures fs a (object ms) refl refl))

pub returns-clause-joins : goal.returns-clause-joins
returns-clause-joins g c = λ start ms fs h.
    let p = c.pop in
    let a = agree_popped _ c.args.self.now.awaited.items p.new.self.items p.result fs c.args.self.now.awaited.ok.0 p.ensures.items p.ensures.variant h.1 in
    put_joins (g.E.Events.holds start) (g.E.Events.is start) (record c.args.self.now { events = c.close_object-put.new.self; awaited = p.new.self }) c.complete.new.self fs (object ms) _
    c.complete.result a h.2 (c.in_ok-refuse_key.ensures fs a) (c.close_object-put.ensures start ms fs h.0) c.complete.ensures

pub returns-in_err-refuse_key-clause-kept : goal.returns-in_err-refuse_key-clause-kept
returns-in_err-refuse_key-clause-kept g c = same_events _ c.args.self.now (record c.args.self.now { awaited = c.pop.new.self }) refl refl

pub returns-clause-kept : goal.returns-clause-kept
returns-clause-kept g c = completed_keeps _ _ c.args.self.now _ c.complete.new.self c.complete.ensures
