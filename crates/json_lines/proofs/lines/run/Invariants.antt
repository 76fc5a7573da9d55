use Rattle.json_lines.proofs.Reading.{Progress}
use Rattle.json_lines.proofs.lines.run.Given as goal

abbrev pub invariant-loop-number : goal.invariant-loop-number
invariant-loop-number g l = record {
  progress : Progress l.fn.options (g.R.Read.remaining l.initial.input) (g.R.Read.remaining l.input)
      (g.W.Write.contents l.initial.output) (g.W.Write.contents l.output) (g.E.Write.contents l.initial.errors)
      (g.E.Write.contents l.errors)
      l.number l.outcome;
}
