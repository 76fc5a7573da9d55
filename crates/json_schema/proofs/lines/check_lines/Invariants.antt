use Rattle.json_schema.proofs.Running.{Progress}
use Rattle.json_schema.proofs.lines.check_lines.Given as goal

abbrev pub invariant-loop-number : goal.invariant-loop-number
invariant-loop-number g l = record {
  progress : Progress l.fn.check (g.R.Read.remaining l.initial.input) (g.R.Read.remaining l.input)
      (g.W.Write.contents l.initial.output) (g.W.Write.contents l.output)
      (g.E.Write.contents l.initial.errors) (g.E.Write.contents l.errors) l.number l.outcome;
}
