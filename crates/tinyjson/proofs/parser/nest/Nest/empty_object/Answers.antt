use Rattle.std.proofs.Common.{refl, inl}
use Rattle.std.proofs.lemmas.Result.{err_from_is_err_and}
use Rattle.tinyjson_grammar.specs.Tree.{no_members, object}
use Rattle.tinyjson.proofs.Reading.Building.{put_joins}
use Rattle.tinyjson.proofs.Reading.Left.{same_events, completed_keeps}
use Rattle.tinyjson.proofs.parser.nest.Nest.empty_object.Goals as goal

pub returns-in_err-refuse_key-clause-joins : goal.returns-in_err-refuse_key-clause-joins
returns-in_err-refuse_key-clause-joins g c = λ start fs h.
    let r = err_from_is_err_and c.from_residual.result c.from_residual.ensures.1 in
    rw (r.1, r.2) (inl (c.in_err-refuse_key.ensures fs h.1 (object no_members) refl refl))

pub returns-clause-joins : goal.returns-clause-joins
returns-clause-joins g c = λ start fs h.
    put_joins (g.E.Events.holds start) (g.E.Events.is start) (record c.args.self.now { events = c.empty_object-put.new.self }) c.complete.new.self fs (object no_members) _
    c.complete.result h.1 h.2 (c.in_ok-refuse_key.ensures fs h.1) (c.empty_object-put.ensures start fs h.0) c.complete.ensures

pub returns-in_err-refuse_key-clause-kept : goal.returns-in_err-refuse_key-clause-kept
returns-in_err-refuse_key-clause-kept g c = same_events _ c.args.self.now c.args.self.now refl refl

pub returns-clause-kept : goal.returns-clause-kept
returns-clause-kept g c = completed_keeps _ _ c.args.self.now _ c.complete.new.self c.complete.ensures
