use Rattle.std.proofs.Common.{◌≡◌, ◌+◌, ◌++◌, [], ap, refl, drop, ◌∙◌, arith, rules, string_bytes}
use Rattle.std.proofs.lemmas.Result.{err_from_is_err_and}
use Rattle.std.proofs.lemmas.Str.{chars-append, IsUtf8-had, IsUtf8-string_bytes}
use Rattle.std.specs.List.{prefix_len}
use Rattle.std.specs.Str.{chars}
use Rattle.tinyjson_bytes.specs.Scan.{is_plain}
use Rattle.tinyjson_tokens.specs.Slice.{before, run_end}
use Rattle.tinyjson_grammar.specs.Characters.{text}
use Rattle.tinyjson_tokens.proofs.Slices.{between, plain_high, plain_boundary, plain_between, stay_moves, step_gives, step_moves}
use Rattle.tinyjson_tokens.proofs.text.TextBytesSource.plain.Goals as goal

pub range-requires-clause-end_boundary : goal.range-requires-clause-end_boundary
range-requires-clause-end_boundary c =
    let self = c.args.self.now in
    let e : c.plain_end-end.result ≡ run_end is_plain self.text.now self.at = c.plain_end-end.ensures.end
    ∙ ap (λ bs. self.at + prefix_len is_plain (drop self.at bs)) c.as_bytes.ensures.value in
    plain_boundary is_plain plain_high self.text.now (IsUtf8-had self.text.now self.utf8) self.at self.boundary _ e

pub returns-in_err-push_str-clause-plain : goal.returns-in_err-push_str-clause-plain
returns-in_err-push_str-clause-plain c =
    let self = c.args.self.now in
    let p = err_from_is_err_and c.from_residual.result c.from_residual.ensures.1 in
    record {
      taken = [];
      pass = tt;
      takes = record { gives = λ zs h. (zs, refl, h); moves = stay_moves (before self.text.now self.at) };
      added = rw p.1 tt;
    }

pub invariant_of-self : goal.invariant_of-self
invariant_of-self c =
    let self = c.args.self.now in
    let e : c.plain_end-end.result ≡ run_end is_plain self.text.now self.at = c.plain_end-end.ensures.end
    ∙ ap (λ bs. self.at + prefix_len is_plain (drop self.at bs)) c.as_bytes.ensures.value in
    record {
      utf8 = self.utf8;
      boundary = plain_boundary is_plain plain_high self.text.now (IsUtf8-had self.text.now self.utf8) self.at self.boundary _ e;
    }

pub returns-clause-plain : goal.returns-clause-plain
returns-clause-plain c =
    let self = c.args.self.now in
    let old = c.args.string.now in
    let utf8 = IsUtf8-had self.text.now self.utf8 in
    let to = c.plain_end-end.result in
    let e : to ≡ run_end is_plain self.text.now self.at = c.plain_end-end.ensures.end
    ∙ ap (λ bs. self.at + prefix_len is_plain (drop self.at bs)) c.as_bytes.ensures.value in
    let last = plain_boundary is_plain plain_high self.text.now utf8 self.at self.boundary to e in
    let bytes : string_bytes c.push_str.new.self ≡ string_bytes old ++ c.range.result.now = search rules in
    record {
      taken = between self.text.now self.at to;
      pass = plain_between is_plain plain_high self.text.now utf8 self.at self.boundary to e;
      takes = record {
        gives = step_gives self.text.now utf8 self.at to (omega (arith, e)) self.boundary last _ refl;
        moves = step_moves self.text.now utf8 self.at to (omega (arith, e)) self.boundary last _ refl;
      };
      added = ap chars bytes ∙ chars-append (string_bytes old) c.range.result.now (IsUtf8-string_bytes old)
          ∙ ap (λ bs. text old ++ chars bs) c.range.ensures.value;
    }
