use Rattle.std.specs.Prelude.{◌≡◌}
use Rattle.std.specs.Str.{IsUtf8, chars}
use Rattle.std.specs.Str.Iter.{chars_rest}
use Rattle.text_regexp.specs.Marked.{cleared, tree_form}
use Rattle.text_regexp.proofs.Running.{PartingPlain}
use Rattle.text_regexp.proofs.run.search.Given as goal

abbrev pub invariant-loop-c : goal.invariant-loop-c
invariant-loop-c l = record {
  utf8 : IsUtf8 (chars_rest l.c-iterator);
  parting : PartingPlain (tree_form l.fn.root) l.root (chars (chars_rest l.c-iterator)) (chars l.fn.text);
  same : cleared l.root ≡ l.fn.root;
}
