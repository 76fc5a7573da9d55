use Rattle.tinyjson_lines.specs.private.Beginnings.{usize_max}
use Rattle.tinyjson_lines.specs.private.Pieces.{IsPart}
use Rattle.std.proofs.Common.{◌<◌}
use Rattle.tinyjson_lines.proofs.checked.read_line_checked.Given as goal

abbrev pub invariant-loop : goal.invariant-loop
invariant-loop g l = record {
  part : IsPart usize_max (g.R.Read.remaining l.initial.input) (g.R.Read.remaining l.input) l.line.items;
  later : 0 < l.next_check;
}
