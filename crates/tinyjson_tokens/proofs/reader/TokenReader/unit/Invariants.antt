use Rattle.std.proofs.Common.{Option, ℕ, ◌≡◌, ◌≤◌, ◌<◌, ◌^◌, List, [], length}
use Rattle.tinyjson_grammar.specs.Characters.{unit_of}
use Rattle.tinyjson_grammar.specs.Machine.{Frame, next, quoted, hex}
use Rattle.tinyjson_tokens.specs.Steps.{Leads}
use Rattle.tinyjson_tokens.proofs.Reading.String.{hexing}
use Rattle.tinyjson_tokens.proofs.reader.TokenReader.unit.Given as goal

abbrev pub invariant-loop : goal.invariant-loop
invariant-loop g l = record {
  small : l.unit < 16 ^ l.counter;
  items : l.units.items ≡ l.initial.units.items;
  left : g.S.Source.left l.self.source ≤ g.S.Source.left l.initial.self.source;
  reads : (ds : List ℕ) × (length ds ≡ l.counter) × (l.unit ≡ unit_of 0 ds)
      × ((limit : Option ℕ) (fs : List Frame) (cs : List ℕ) → Leads g.S.Source.sight limit l.initial.self.source
      (next fs (quoted (hex []) cs l.initial.units.items)) l.self.source (hexing fs cs l.initial.units.items ds));
}
