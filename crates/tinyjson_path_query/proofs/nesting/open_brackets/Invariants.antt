use Rattle.std.proofs.Common.{◌≡◌, ◌+◌, ◌≤◌, length}
use Rattle.tinyjson_path_query.specs.Refusing.{open_after, open_brackets}
use Rattle.tinyjson_path_query.proofs.nesting.open_brackets.Given as goal

abbrev pub invariant-loop-first : goal.invariant-loop-first
invariant-loop-first l = record {
  few : l.opened.brackets + length l.rest ≤ length l.fn.text;
  same : open_after l.opened.brackets l.opened.quote l.opened.escaped l.rest ≡ open_brackets l.fn.text;
}

abbrev pub decreases-loop-first : goal.decreases-loop-first
decreases-loop-first l = length l.rest
