use Rattle.std.proofs.Common.{refl, inl, sym}
use Rattle.std.proofs.lemmas.Result.{err_from_is_err_and}
use Rattle.tinyjson_grammar.specs.Tree.{literal_tree}
use Rattle.tinyjson.proofs.Reading.Building.{literal_no_string, put_joins}
use Rattle.tinyjson.proofs.Reading.Left.{same_events, completed_keeps}
use Rattle.tinyjson.proofs.parser.nest.Nest.literal.Goals as goal

pub returns-in_err-refuse_key-clause-joins : goal.returns-in_err-refuse_key-clause-joins
returns-in_err-refuse_key-clause-joins g c = λ start fs h.
    let r = err_from_is_err_and c.from_residual.result c.from_residual.ensures.1 in
    rw (r.1, r.2) (inl (c.in_err-refuse_key.ensures fs h.1 (literal_tree c.args.value) (literal_no_string c.args.value) (sym c.literal_kind.ensures)))

pub returns-clause-joins : goal.returns-clause-joins
returns-clause-joins g c = λ start fs h.
    put_joins (g.E.Events.holds start) (g.E.Events.is start) (record c.args.self.now { events = c.literal-put.new.self }) c.complete.new.self fs (literal_tree c.args.value) _
    c.complete.result h.1 h.2 (c.in_ok-refuse_key.ensures fs h.1) (c.literal-put.ensures start fs h.0) c.complete.ensures

pub returns-in_err-refuse_key-clause-kept : goal.returns-in_err-refuse_key-clause-kept
returns-in_err-refuse_key-clause-kept g c = same_events _ c.args.self.now c.args.self.now refl refl

pub returns-clause-kept : goal.returns-clause-kept
returns-clause-kept g c = completed_keeps _ _ c.args.self.now _ c.complete.new.self c.complete.ensures
