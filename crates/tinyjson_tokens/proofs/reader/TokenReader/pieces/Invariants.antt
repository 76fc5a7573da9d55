use Rattle.std.proofs.Common.{Option, ℕ, ◌≤◌, List, [], false}
use Rattle.tinyjson_grammar.specs.Machine.{Frame}
use Rattle.tinyjson_tokens.specs.Steps.{Leads, within}
use Rattle.tinyjson_tokens.proofs.reader.TokenReader.pieces.Given as goal

abbrev pub invariant-loop-units : goal.invariant-loop-units
invariant-loop-units g l = record {
  reads : (limit : Option ℕ) (fs : List Frame) → Leads g.S.Source.sight limit l.fn.self.source
      (within fs l.fn.buffer [] false) l.self.source (within fs l.buffer l.units.items false);
  left : g.S.Source.left l.self.source ≤ g.S.Source.left l.fn.self.source;
}

abbrev pub decreases-loop-units : goal.decreases-loop-units
decreases-loop-units g l = g.S.Source.left l.self.source
