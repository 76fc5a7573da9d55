use Rattle.tinyjson_grammar.specs.Tree.{string}
use Rattle.std.specs.Str.{chars}
use Rattle.tinyjson.proofs.Reading.Building.{put_joins}
use Rattle.tinyjson.proofs.Reading.Left.{completed_keeps}
use Rattle.tinyjson.proofs.parser.nest.Nest.string.Goals as goal

pub returns-clause-joins : goal.returns-clause-joins
returns-clause-joins g c = λ start fs h v.
    put_joins (g.E.Events.holds start) (g.E.Events.is start) (record c.args.self.now { events = c.string_before-put.new.self }) c.complete.new.self fs (string (chars c.args.value.now)) _
    c.complete.result h.1 h.2 v (c.string_before-put.ensures start fs h.0) c.complete.ensures

pub returns-clause-kept : goal.returns-clause-kept
returns-clause-kept g c = completed_keeps _ _ c.args.self.now _ c.complete.new.self c.complete.ensures
