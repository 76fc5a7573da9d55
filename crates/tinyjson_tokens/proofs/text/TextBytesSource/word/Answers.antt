use Rattle.std.proofs.Common.{rules, arith, ◌≡◌, ◌+◌, ◌≤◌, length, take, drop}
use Rattle.std.proofs.lemmas.Str.{IsUtf8-had}
use Rattle.std.specs.Str.{chars}
use Rattle.tinyjson_tokens.proofs.Slices.{step_gives, step_moves, word_boundary, word_between}
use Rattle.tinyjson_tokens.proofs.text.TextBytesSource.word.Goals as goal

pub invariant_of-self : goal.invariant_of-self
invariant_of-self c =
    let self = c.args.self.now in
    let word = c.args.word.now in
    let utf8 = IsUtf8-had self.text.now self.utf8 in
    let same : take (length word) (drop self.at self.text.now) ≡ word = search rules in
    record { utf8 = self.utf8; boundary = word_boundary self.text.now utf8 self.at self.boundary word c.utf8.word same (omega arith) }

pub returns-clause-takes : goal.returns-clause-takes
returns-clause-takes c =
    let self = c.args.self.now in
    let word = c.args.word.now in
    let utf8 = IsUtf8-had self.text.now self.utf8 in
    let same : take (length word) (drop self.at self.text.now) ≡ word = search rules in
    let room : self.at + length word ≤ length self.text.now = omega arith in
    let last = word_boundary self.text.now utf8 self.at self.boundary word c.utf8.word same room in
    let one = word_between self.text.now self.at word same in
    record {
      gives = step_gives self.text.now utf8 self.at _ (omega arith) self.boundary last (chars word) one;
      moves = step_moves self.text.now utf8 self.at _ (omega arith) self.boundary last (chars word) one;
    }
