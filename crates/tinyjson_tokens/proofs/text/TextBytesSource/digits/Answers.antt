use Rattle.std.proofs.Common.{◌≡◌, ◌+◌, ◌++◌, [], ap, sym, refl, drop, ◌∙◌, arith, rules, string_bytes, length, length-append, subst}
use Rattle.std.specs.List.{slice_get, prefix_len}
use Rattle.std.proofs.lemmas.Result.{err_from_is_err_and}
use Rattle.std.proofs.lemmas.Str.{IsUtf8-had}
use Rattle.std.specs.Char.{is_ascii_digit}
use Rattle.tinyjson_tokens.specs.Slice.{before, chars_after, run_end}
use Rattle.tinyjson_tokens.proofs.Slices.{between, digit_small, ascii_boundary, ascii_between, ascii_bytes, ascii_ends, stay_moves}
use Rattle.tinyjson_tokens.proofs.Slices.{step_gives, step_moves}
use Rattle.tinyjson_tokens.proofs.text.TextBytesSource.digits.Goals as goal

pub range-requires-clause-end_boundary : goal.range-requires-clause-end_boundary
range-requires-clause-end_boundary c =
    let self = c.args.self.now in
    let e : c.digits_end-end.result ≡ run_end is_ascii_digit self.text.now self.at = c.digits_end-end.ensures
    ∙ ap (λ bs. self.at + prefix_len is_ascii_digit (drop self.at bs)) c.as_bytes.ensures.value in
    ascii_boundary is_ascii_digit digit_small self.text.now (IsUtf8-had self.text.now self.utf8) self.at self.boundary _ e

pub returns-in_err-push_str-clause-digits : goal.returns-in_err-push_str-clause-digits
returns-in_err-push_str-clause-digits c =
    let self = c.args.self.now in
    let p = err_from_is_err_and c.from_residual.result c.from_residual.ensures.1 in
    record {
      taken = [];
      pass = tt;
      takes = record { gives = λ zs h. (zs, refl, h); moves = stay_moves (before self.text.now self.at) };
      added = rw p.1 tt;
    }

pub invariant_of-self : goal.invariant_of-self
invariant_of-self c =
    let self = c.args.self.now in
    let e : c.digits_end-end.result ≡ run_end is_ascii_digit self.text.now self.at = c.digits_end-end.ensures
    ∙ ap (λ bs. self.at + prefix_len is_ascii_digit (drop self.at bs)) c.as_bytes.ensures.value in
    record {
      utf8 = self.utf8;
      boundary = ascii_boundary is_ascii_digit digit_small self.text.now (IsUtf8-had self.text.now self.utf8) self.at self.boundary _ e;
    }

pub returns-clause-digits : goal.returns-clause-digits
returns-clause-digits c =
    let self = c.args.self.now in
    let utf8 = IsUtf8-had self.text.now self.utf8 in
    let to = c.digits_end-end.result in
    let e : to ≡ run_end is_ascii_digit self.text.now self.at = c.digits_end-end.ensures
    ∙ ap (λ bs. self.at + prefix_len is_ascii_digit (drop self.at bs)) c.as_bytes.ensures.value in
    let last = ascii_boundary is_ascii_digit digit_small self.text.now utf8 self.at self.boundary to e in
    let bytes : string_bytes c.push_str.new.self ≡ string_bytes c.args.buffer.now ++ c.range.result.now = search rules in
    let same = ascii_bytes is_ascii_digit digit_small self.text.now utf8 self.at self.boundary to e in
    record {
      taken = between self.text.now self.at to;
      pass = ascii_between is_ascii_digit digit_small self.text.now utf8 self.at self.boundary to e;
      takes = record {
        gives = step_gives self.text.now utf8 self.at to (omega (arith, e)) self.boundary last _ refl;
        moves = step_moves self.text.now utf8 self.at to (omega (arith, e)) self.boundary last _ refl;
      };
      added = bytes ∙ ap (λ bs. string_bytes c.args.buffer.now ++ bs) (c.range.ensures.value ∙ sym same);
    }

pub returns-clause-stops : goal.returns-clause-stops
returns-clause-stops c =
    let self = c.args.self.now in
    let e : c.digits_end-end.result ≡ run_end is_ascii_digit self.text.now self.at = c.digits_end-end.ensures
    ∙ ap (λ bs. self.at + prefix_len is_ascii_digit (drop self.at bs)) c.as_bytes.ensures.value in
    ascii_ends is_ascii_digit digit_small self.text.now (IsUtf8-had self.text.now self.utf8) self.at self.boundary _ e

pub returns-clause-still : goal.returns-clause-still
returns-clause-still c = λ e o h.
    let self = c.args.self.now in
    let to = c.digits_end-end.result in
    let is : to ≡ run_end is_ascii_digit self.text.now self.at = c.digits_end-end.ensures
    ∙ ap (λ bs. self.at + prefix_len is_ascii_digit (drop self.at bs)) c.as_bytes.ensures.value in
    let bytes : string_bytes c.push_str.new.self ≡ string_bytes c.args.buffer.now ++ c.range.result.now = search rules in
    let none : length c.range.result.now ≡ 0 = omega (
      arith,
      ap length bytes,
      ap length e,
      length-append (string_bytes c.args.buffer.now) c.range.result.now,
    ) in
    let here : self.at ≡ to = omega (arith, none, c.range.ensures.len, is) in
    subst (λ k. slice_get (chars_after self.text.now k) 0 ≡ o) here h
