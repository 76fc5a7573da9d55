use Rattle.std.proofs.Common.{Option, ℕ, ◌≤◌, List}
use Rattle.std.specs.Str.{IsUtf8, chars}
use Rattle.std.specs.Str.Iter.{chars_rest}
use Rattle.tinyjson_grammar.specs.Tree.{Tree}
use Rattle.tinyjson_grammar.specs.Machine.{Frame}
use Rattle.tinyjson_tokens.specs.Steps.{Leads, letters_left}
use Rattle.tinyjson_tokens.proofs.reader.TokenReader.each_letter.Given as goal

abbrev pub invariant-loop-letter : goal.invariant-loop-letter
invariant-loop-letter g l = record {
  utf8 : IsUtf8 (chars_rest l.letter-iterator);
  reads : (limit : Option ℕ) (fs : List Frame) (t : Tree) → Leads g.S.Source.sight limit
      l.initial.self.source (letters_left fs (chars l.letters) t) l.self.source (letters_left fs (chars (chars_rest l.letter-iterator)) t);
  left : g.S.Source.left l.self.source ≤ g.S.Source.left l.initial.self.source;
}
