use Rattle.tinyjson_lines.specs.private.Pieces.{IsPart}
use Rattle.tinyjson_lines.proofs.within.gather_line.Given as goal

abbrev pub invariant-loop : goal.invariant-loop
invariant-loop g l = record {
  part : IsPart l.fn.max (g.R.Read.remaining l.initial.input) (g.R.Read.remaining l.input) l.line.items;
}
