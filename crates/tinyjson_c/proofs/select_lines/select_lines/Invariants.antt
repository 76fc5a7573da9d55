use Rattle.std.proofs.Common.{◌≡◌, ◌+◌, ◌≤◌, List, Some, length}
use Rattle.tinyjson_c.specs.Lines.{AreFirst}
use Rattle.tinyjson_c.specs.SelectLines.{selected_text}
use Rattle.tinyjson_grammar.specs.Tree.{Tree}
use Rattle.tinyjson_path.specs.Patterns.{judged}
use Rattle.tinyjson_c.proofs.select_lines.select_lines.Given as goal

abbrev pub invariant-loop-rest : goal.invariant-loop-rest
invariant-loop-rest l = record {
  read : (ts : List Tree) × AreFirst (Some l.depth) l.bytes ts l.rest × (l.written.items ≡ selected_text judged l.query l.paths ts)
      × (l.number ≡ length ts);
  counted : l.number + length l.rest ≤ length l.bytes;
}

abbrev pub decreases-loop-rest : goal.decreases-loop-rest
decreases-loop-rest l = length l.rest
