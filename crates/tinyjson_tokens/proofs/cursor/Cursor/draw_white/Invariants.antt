use Rattle.std.proofs.Common.{◌≡◌, ◌<◌, ◌≤◌, false, None}
use Rattle.tinyjson_grammar.specs.Characters.{is_white}
use Rattle.tinyjson_tokens.specs.Cursor.{Ready, Skips, left}
use Rattle.tinyjson_tokens.proofs.cursor.Cursor.draw_white.Given as goal

abbrev pub invariant-loop-c : goal.invariant-loop-c
invariant-loop-c g l = record {
  ready : Ready g.I.Iterator.can_next g.I.Iterator.remaining l.self;
  white : Skips g.I.Iterator.next_gives is_white l.initial.self l.self;
  line : l.self.line < 18446744073709551616;
  column : l.self.column < 18446744073709551616;
  none : l.self.peeked ≡ None;
  more : l.self.done ≡ false;
  left : left g.I.Iterator.remaining l.self ≤ left g.I.Iterator.remaining l.initial.self;
}

abbrev pub decreases-loop-c : goal.decreases-loop-c
decreases-loop-c g l = left g.I.Iterator.remaining l.self
