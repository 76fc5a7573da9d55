use Rattle.std.specs.Prelude.{ℕ, List, Option}
use Rattle.tinyjson_lines.proofs.Passing.{Passing}
use Rattle.tinyjson_lines.specs.private.Beginnings.{usize_max}
use Rattle.tinyjson_lines.specs.private.Pieces.{IsPart}
use Rattle.tinyjson_lines.proofs.checked.pass_over.Given as goal

abbrev pub invariant-loop : goal.invariant-loop
invariant-loop g l = record {
  passing : (unread : Option (List ℕ)) → IsPart usize_max unread (g.R.Read.remaining l.initial.input) l.initial.part.items
      → Passing unread (g.R.Read.remaining l.input) l.initial.part.items l.part.items;
}
