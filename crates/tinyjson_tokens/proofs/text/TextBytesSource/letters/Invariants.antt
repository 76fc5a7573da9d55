use Rattle.std.proofs.Common.{◌-◌, ◌≤◌, Ok, length}
use Rattle.tinyjson_grammar.specs.Characters.{text}
use Rattle.tinyjson_bytes.specs.Scan.{is_plain}
use Rattle.tinyjson_tokens.specs.Source.{TakesRun}
use Rattle.tinyjson_tokens.proofs.Letters.{text_sight}
use Rattle.tinyjson_tokens.proofs.text.TextBytesSource.letters.Given as goal

abbrev pub invariant-loop : goal.invariant-loop
invariant-loop l = record {
  plain : TakesRun text_sight is_plain {E = Unit {0}} l.fn.self (text l.fn.string) (Ok tt) (text l.string) l.self;
  left : length l.self.text.now - l.self.at ≤ length l.fn.self.text.now - l.fn.self.at;
}
