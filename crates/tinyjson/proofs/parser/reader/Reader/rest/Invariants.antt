use Rattle.tinyjson_grammar.specs.Machine.{Next}
use Rattle.tinyjson.specs.private.Building.{Stands}
use Rattle.tinyjson_tokens.specs.Steps.{Leads}
use Rattle.tinyjson.proofs.parser.reader.Reader.rest.Given as goal

abbrev pub invariant-loop-progress : goal.invariant-loop-progress
invariant-loop-progress g l = (start : g.row.E.Denot) (n : Next)
    → Stands (g.E.Events.holds start) (g.E.Events.is start) l.initial.nest l.initial.progress n
    → (m : Next) × Leads g.S.Source.sight l.fn.limit l.initial.self.tokens.source n l.self.tokens.source m
    × Stands (g.E.Events.holds start) (g.E.Events.is start) l.nest l.progress m

abbrev pub decreases-loop-progress : goal.decreases-loop-progress
decreases-loop-progress g l = g.S.Source.left l.self.tokens.source
