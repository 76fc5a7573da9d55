use Rattle.std.proofs.Common.{◌≡◌, ◌<◌, ◌+◌, ◌≤◌, false, None, Ok, length}
use Rattle.tinyjson_tokens.specs.Cursor.{Ready, Runs, left}
use Rattle.tinyjson_grammar.specs.Characters.{text}
use Rattle.tinyjson_tokens.proofs.cursor.Cursor.draw_run.Given as goal

abbrev pub invariant-loop-c : goal.invariant-loop-c
invariant-loop-c g l = record {
  ready : Ready g.I.Iterator.can_next g.I.Iterator.remaining l.self;
  run : Runs g.I.Iterator.next_gives g.C.Class.test {E = Unit {0}} l.initial.self (text l.initial.string) (Ok tt) (text l.string)
      (record l.self { column = l.column });
  line : l.self.line < 18446744073709551616;
  column : l.column < 18446744073709551616;
  none : l.self.peeked ≡ None;
  more : l.self.done ≡ false;
  fewer : left g.I.Iterator.remaining l.self + length (text l.string)
      ≤ left g.I.Iterator.remaining l.initial.self + length (text l.initial.string);
  left : left g.I.Iterator.remaining l.self ≤ left g.I.Iterator.remaining l.initial.self;
}

abbrev pub decreases-loop-c : goal.decreases-loop-c
decreases-loop-c g l = left g.I.Iterator.remaining l.self
