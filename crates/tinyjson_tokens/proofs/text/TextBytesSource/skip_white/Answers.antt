use Rattle.std.proofs.Common.{◌≡◌, ◌∙◌, ◌<◌, [], length, get_or, refl, sym, ap, arith}
use Rattle.std.proofs.lemmas.Str.{IsUtf8-had}
use Rattle.tinyjson_grammar.specs.Characters.{is_white}
use Rattle.tinyjson_grammar.specs.Position.{advance, origin}
use Rattle.tinyjson_tokens.specs.Slice.{before, chars_after}
use Rattle.tinyjson_tokens.proofs.Slices.{between, next_shown, ascii_next, white_small, ascii_boundary, ascii_between, ascii_stops}
use Rattle.tinyjson_tokens.proofs.Slices.{stay_moves, step_gives, step_moves}
use Rattle.tinyjson_tokens.proofs.text.TextBytesSource.skip_white.Goals as goal

pub returns-then-bytes-self-lt128-clause-white : goal.returns-then-bytes-self-lt128-clause-white
returns-then-bytes-self-lt128-clause-white c =
    let self = c.args.self.now in
    record { taken = []; white = tt; takes = record { gives = λ zs h. (zs, refl, h); moves = stay_moves (before self.text.now self.at) } }

pub returns-then-bytes-self-lt128-clause-shows : goal.returns-then-bytes-self-lt128-clause-shows
returns-then-bytes-self-lt128-clause-shows c =
    let self = c.args.self.now in
    let byte = get_or c.as_bytes-bytes.result.now self.at 0 in
    let same : get_or self.text.now self.at 0 ≡ byte = ap (λ bs. get_or bs self.at 0) (sym c.as_bytes-bytes.ensures.value) in
    let some : self.at < length self.text.now = omega (arith, ap length c.as_bytes-bytes.ensures.value) in
    next_shown self.text.now (IsUtf8-had self.text.now self.utf8) self.at self.boundary _
    (ascii_next self.text.now self.at byte some same c.if-bytes-self-lt128.true)

pub returns-clause-white : goal.returns-clause-white
returns-clause-white c =
    let self = c.args.self.now in
    let utf8 = IsUtf8-had self.text.now self.utf8 in
    let to = c.pass_white.new.self.at in
    let e = c.pass_white.ensures.at in
    let last = ascii_boundary is_white white_small self.text.now utf8 self.at self.boundary to e in
    let text = c.pass_white.ensures.text in
    record {
      taken = between self.text.now self.at to;
      white = ascii_between is_white white_small self.text.now utf8 self.at self.boundary to e;
      takes = record {
        gives = λ zs h. let s = step_gives self.text.now utf8 self.at to (omega (arith, e)) self.boundary last _ refl zs h in
            (s.0, s.1, s.2 ∙ ap (λ t. chars_after t to) (sym text));
        moves = ap (λ t. advance origin (before t to)) text ∙ step_moves self.text.now utf8 self.at to
            (omega (arith, e)) self.boundary last _ refl;
      };
    }

pub returns-clause-shows : goal.returns-clause-shows
returns-clause-shows c =
    let now = c.pass_white.new.self in
    next_shown now.text.now (IsUtf8-had now.text.now now.utf8) now.at now.boundary _ c.pass_white.ensures.next

pub returns-clause-stops : goal.returns-clause-stops
returns-clause-stops c =
    let self = c.args.self.now in
    let next = rw c.pass_white.ensures.text at c.pass_white.ensures.next in
    ascii_stops is_white white_small self.text.now (IsUtf8-had self.text.now self.utf8) self.at self.boundary _ c.pass_white.ensures.at _
    next
