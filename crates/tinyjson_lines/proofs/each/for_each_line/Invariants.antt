use Rattle.tinyjson_lines.proofs.Steps.{Progress}
use Rattle.tinyjson_lines.proofs.each.for_each_line.Given as goal

abbrev pub invariant-loop-number : goal.invariant-loop-number
invariant-loop-number g l = record {
  progress : Progress g.H.LineHandler.handles l.fn.max l.initial.handler l.handler (g.R.Read.remaining l.initial.input)
      (g.R.Read.remaining l.input) (g.W.Write.contents l.initial.output) (g.W.Write.contents l.output)
      (g.E.Write.contents l.initial.errors) (g.E.Write.contents l.errors) l.number;
}
