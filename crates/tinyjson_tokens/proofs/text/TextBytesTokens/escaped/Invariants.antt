use Rattle.std.proofs.Common.{◌-◌, ◌≤◌, ℕ, Option, List, [], false, length}
use Rattle.tinyjson_grammar.specs.Machine.{Frame}
use Rattle.tinyjson_tokens.proofs.Letters.{text_sight}
use Rattle.tinyjson_tokens.specs.Steps.{Leads, within}
use Rattle.tinyjson_tokens.proofs.text.TextBytesTokens.escaped.Given as goal

abbrev pub invariant-loop-end : goal.invariant-loop-end
invariant-loop-end l = record {
  reads : (limit : Option ℕ) (fs : List Frame) → Leads text_sight limit l.fn.self (within fs l.fn.string [] false) l.self
      (within fs l.string [] false);
  left : length l.self.text.now - l.self.at ≤ length l.fn.self.text.now - l.fn.self.at;
}

abbrev pub decreases-loop-end : goal.decreases-loop-end
decreases-loop-end l = length l.self.text.now - l.self.at
