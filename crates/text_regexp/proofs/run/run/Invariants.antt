use Rattle.std.specs.Prelude.{◌≡◌}
use Rattle.std.specs.Str.{IsUtf8, chars}
use Rattle.std.specs.Str.Iter.{chars_rest}
use Rattle.text_regexp.specs.Marked.{cleared, tree_form}
use Rattle.text_regexp.proofs.Running.{Whole}
use Rattle.text_regexp.proofs.Works.{Stays}
use Rattle.text_regexp.proofs.run.run.Given as goal

abbrev pub invariant-loop-c : goal.invariant-loop-c
invariant-loop-c l = record {
  utf8 : IsUtf8 (chars_rest l.c-iterator);
  whole : Whole (tree_form l.fn.root) l.root l.start l.ends (chars (chars_rest l.c-iterator)) (chars l.fn.text);
  same : cleared l.root ≡ l.fn.root;
  work : Stays l.fn.work l.work;
}
