use Rattle.std.specs.Prelude.{◌≡◌, ◌≤◌, length, true}
use Rattle.std.specs.Str.{IsUtf8, chars}
use Rattle.std.specs.Str.Iter.{chars_rest}
use Rattle.text_regexp.specs.Automata.{row_reads}
use Rattle.text_regexp.specs.Marked.{reads}
use Rattle.text_regexp.proofs.Works.{Stays}
use Rattle.text_regexp.proofs.automaton.Automaton.judge.Given as goal

abbrev pub invariant-loop-c : goal.invariant-loop-c
invariant-loop-c l = record {
  utf8 : IsUtf8 (chars_rest l.c-iterator);
  row : l.row ≤ length l.self.states.items;
  same : l.self.expression.root ≡ l.fn.self.expression.root;
  reads : row_reads l.self.expression.root l.self.states.items l.row (chars (chars_rest l.c-iterator))
      ≡ reads true l.fn.self.expression.root (chars l.fn.text);
  work : Stays l.fn.work l.work;
}
