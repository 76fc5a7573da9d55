use Rattle.std.proofs.Common.{subst, arith}
use Rattle.std.proofs.lemmas.Str.{IsUtf8-had}
use Rattle.tinyjson_tokens.specs.Slice.{NextChar}
use Rattle.tinyjson_tokens.proofs.Slices.{next_of, char_boundary, char_between, step_gives, step_moves}
use Rattle.tinyjson_tokens.proofs.text.TextBytesSource.consume.Goals as goal

pub invariant_of-self : goal.invariant_of-self
invariant_of-self c =
    let self = c.args.self.now in
    let utf8 = IsUtf8-had self.text.now self.utf8 in
    let next = subst (NextChar self.text.now self.at) c.requires.shown (next_of self.text.now utf8 self.at self.boundary) in
    record { utf8 = self.utf8; boundary = char_boundary self.text.now utf8 self.at self.boundary c.args.c _ next c.width.ensures }

pub returns-clause-takes : goal.returns-clause-takes
returns-clause-takes c =
    let self = c.args.self.now in
    let utf8 = IsUtf8-had self.text.now self.utf8 in
    let next = subst (NextChar self.text.now self.at) c.requires.shown (next_of self.text.now utf8 self.at self.boundary) in
    let last = char_boundary self.text.now utf8 self.at self.boundary c.args.c _ next c.width.ensures in
    let one = char_between self.text.now utf8 self.at self.boundary c.args.c _ next c.width.ensures in
    record {
      gives = step_gives self.text.now utf8 self.at _ (omega arith) self.boundary last _ one;
      moves = step_moves self.text.now utf8 self.at _ (omega arith) self.boundary last _ one;
    }
