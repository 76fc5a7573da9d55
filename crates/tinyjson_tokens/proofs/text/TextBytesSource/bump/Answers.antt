use Rattle.std.proofs.Common.{None, refl, sym, ◌∙◌, arith}
use Rattle.std.proofs.lemmas.Str.{IsUtf8-had}
use Rattle.tinyjson_tokens.specs.Slice.{before}
use Rattle.tinyjson_tokens.proofs.Slices.{next_shown, char_boundary, char_between, step_gives, step_moves, stay_moves}
use Rattle.tinyjson_tokens.proofs.text.TextBytesSource.bump.Goals as goal

pub invariant_of-self : goal.invariant_of-self
invariant_of-self c =
    let self = c.args.self.now in
    record {
      utf8 = self.utf8;
      boundary = char_boundary self.text.now (IsUtf8-had self.text.now self.utf8) self.at self.boundary c.in-Some.c _ c.in-Some.ensures
          c.width.ensures;
    }

pub returns-in-Some-clause-takes : goal.returns-in-Some-clause-takes
returns-in-Some-clause-takes c =
    let self = c.args.self.now in
    let utf8 = IsUtf8-had self.text.now self.utf8 in
    let last = char_boundary self.text.now utf8 self.at self.boundary c.in-Some.c _ c.in-Some.ensures c.width.ensures in
    let one = char_between self.text.now utf8 self.at self.boundary c.in-Some.c _ c.in-Some.ensures c.width.ensures in
    record {
      gives = step_gives self.text.now utf8 self.at _ (omega arith) self.boundary last _ one;
      moves = step_moves self.text.now utf8 self.at _ (omega arith) self.boundary last _ one;
    }

pub returns-in-Some-clause-shown : goal.returns-in-Some-clause-shown
returns-in-Some-clause-shown c =
    let self = c.args.self.now in
    λ o s. sym (next_shown self.text.now (IsUtf8-had self.text.now self.utf8) self.at self.boundary _ c.in-Some.ensures) ∙ s

pub returns-in_default-clause-takes : goal.returns-in_default-clause-takes
returns-in_default-clause-takes c =
    let self = c.args.self.now in
    rw c.in_default.is (
      record { gives = λ zs h. (zs, refl, h); moves = stay_moves (before self.text.now self.at) },
      next_shown self.text.now (IsUtf8-had self.text.now self.utf8) self.at self.boundary None c.in_default.ensures,
    )

pub returns-in_default-clause-shown : goal.returns-in_default-clause-shown
returns-in_default-clause-shown c =
    let self = c.args.self.now in
    λ o s. sym (next_shown self.text.now (IsUtf8-had self.text.now self.utf8) self.at self.boundary _ c.first-next.ensures) ∙ s
