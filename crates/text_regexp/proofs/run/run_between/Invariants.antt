use Rattle.std.specs.Prelude.{◌≡◌, None}
use Rattle.std.specs.Str.{IsUtf8, chars}
use Rattle.std.specs.Str.Iter.{chars_rest}
use Rattle.text_regexp.specs.Marked.{cleared, standing, tree_form}
use Rattle.text_regexp.proofs.Running.{Reached}
use Rattle.text_regexp.proofs.Works.{Stays}
use Rattle.text_regexp.proofs.run.run_between.Given as goal

abbrev pub invariant-loop-c : goal.invariant-loop-c
invariant-loop-c l = record {
  utf8 : IsUtf8 (chars_rest l.c-iterator);
  reached : Reached (tree_form l.fn.root) l.root l.start l.before (chars (chars_rest l.c-iterator)) (chars l.fn.text);
  same : standing None None (cleared l.root) ≡ standing None None l.fn.root;
  work : Stays l.fn.work l.work;
}
