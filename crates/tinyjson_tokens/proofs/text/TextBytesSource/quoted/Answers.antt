use Rattle.std.proofs.Common.{◌≡◌, ◌+◌, ◌++◌, ◌<◌, [], ◌∷◌, true, length, get_or, ap, sym, subst, refl, drop, ◌∙◌, arith, rules}
use Rattle.std.proofs.Common.{string_bytes}
use Rattle.std.proofs.lemmas.Result.{err_from_is_err_and}
use Rattle.std.proofs.lemmas.Str.{chars-append, IsUtf8-had, IsUtf8-string_bytes}
use Rattle.std.specs.List.{AllByRecursion, prefix_len}
use Rattle.std.specs.Str.{chars}
use Rattle.tinyjson_bytes.specs.Scan.{is_plain}
use Rattle.tinyjson_tokens.specs.Slice.{before, run_end}
use Rattle.tinyjson_grammar.specs.Characters.{text}
use Rattle.tinyjson_tokens.proofs.Slices.{between, plain_high, plain_boundary, plain_between, quote_boundary}
use Rattle.tinyjson_tokens.proofs.Slices.{quote_between, stay_moves, step_gives}
use Rattle.tinyjson_tokens.proofs.Slices.{step_moves}
use Rattle.tinyjson_tokens.proofs.text.TextBytesSource.quoted.Goals as goal

pub range-run-requires-clause-end_boundary : goal.range-run-requires-clause-end_boundary
range-run-requires-clause-end_boundary c =
    let self = c.args.self.now in
    let e : c.plain_end-end.result ≡ run_end is_plain self.text.now self.at = c.plain_end-end.ensures.end
    ∙ ap (λ bs. self.at + prefix_len is_plain (drop self.at bs)) c.as_bytes-bytes.ensures.value in
    plain_boundary is_plain plain_high self.text.now (IsUtf8-had self.text.now self.utf8) self.at self.boundary _ e

pub returns-in_err-push_str-clause-quoted : goal.returns-in_err-push_str-clause-quoted
returns-in_err-push_str-clause-quoted c =
    let self = c.args.self.now in
    let p = err_from_is_err_and c.from_residual.result c.from_residual.ensures.1 in
    rw p.1 (record {
      taken = [];
      pass = tt;
      takes = record { gives = λ zs h. (zs, refl, h); moves = stay_moves (before self.text.now self.at) };
      added = tt;
    })

pub invariant_of-self-then-end-bytes : goal.invariant_of-self-then-end-bytes
invariant_of-self-then-end-bytes c =
    let self = c.args.self.now in
    let e : c.plain_end-end.result ≡ run_end is_plain self.text.now self.at = c.plain_end-end.ensures.end
    ∙ ap (λ bs. self.at + prefix_len is_plain (drop self.at bs)) c.as_bytes-bytes.ensures.value in
    record {
      utf8 = self.utf8;
      boundary = plain_boundary is_plain plain_high self.text.now (IsUtf8-had self.text.now self.utf8) self.at self.boundary _ e;
    }

pub returns-then-end-bytes-clause-quoted : goal.returns-then-end-bytes-clause-quoted
returns-then-end-bytes-clause-quoted c =
    let self = c.args.self.now in
    let old = c.args.string.now in
    let utf8 = IsUtf8-had self.text.now self.utf8 in
    let to = c.plain_end-end.result in
    let e : to ≡ run_end is_plain self.text.now self.at = c.plain_end-end.ensures.end
    ∙ ap (λ bs. self.at + prefix_len is_plain (drop self.at bs)) c.as_bytes-bytes.ensures.value in
    let last = plain_boundary is_plain plain_high self.text.now utf8 self.at self.boundary to e in
    let bytes : string_bytes c.push_str.new.self ≡ string_bytes old ++ c.range-run.result.now = search rules in
    record {
      taken = between self.text.now self.at to;
      pass = plain_between is_plain plain_high self.text.now utf8 self.at self.boundary to e;
      takes = record {
        gives = step_gives self.text.now utf8 self.at to (omega (arith, e)) self.boundary last _ refl;
        moves = step_moves self.text.now utf8 self.at to (omega (arith, e)) self.boundary last _ refl;
      };
      added = ap chars bytes ∙ chars-append (string_bytes old) c.range-run.result.now (IsUtf8-string_bytes old)
          ∙ ap (λ bs. text old ++ chars bs) c.range-run.ensures.value;
    }

pub invariant_of-self : goal.invariant_of-self
invariant_of-self c = record { utf8 = c.args.self.now.utf8; boundary = c.args.self.now.boundary }

pub invariant_of-self-2 : goal.invariant_of-self-2
invariant_of-self-2 c =
    let self = c.args.self.now in
    let e : c.plain_end-end.result ≡ run_end is_plain self.text.now self.at = c.plain_end-end.ensures.end
    ∙ ap (λ bs. self.at + prefix_len is_plain (drop self.at bs)) c.as_bytes-bytes.ensures.value in
    let some : c.plain_end-end.result < length self.text.now = omega (
      arith,
      c.if-end-bytes.false,
      c.plain_end-end.ensures.within,
      ap length c.as_bytes-bytes.ensures.value,
    ) in
    let quote : get_or self.text.now c.plain_end-end.result 0 ≡ 34 = ap (λ bs. get_or bs c.plain_end-end.result 0)
    (sym c.as_bytes-bytes.ensures.value) ∙ c.if-bytes-end-ne34.false in
    record {
      utf8 = self.utf8;
      boundary = quote_boundary self.text.now (IsUtf8-had self.text.now self.utf8) self.at self.boundary _ e some quote;
    }

pub returns-clause-quoted : goal.returns-clause-quoted
returns-clause-quoted c =
    let self = c.args.self.now in
    let utf8 = IsUtf8-had self.text.now self.utf8 in
    let to = c.plain_end-end.result in
    let e : to ≡ run_end is_plain self.text.now self.at = c.plain_end-end.ensures.end
    ∙ ap (λ bs. self.at + prefix_len is_plain (drop self.at bs)) c.as_bytes-bytes.ensures.value in
    let some : to < length self.text.now = omega (
      arith,
      c.if-end-bytes.false,
      c.plain_end-end.ensures.within,
      ap length c.as_bytes-bytes.ensures.value,
    ) in
    let quote : get_or self.text.now to 0 ≡ 34 = ap (λ bs. get_or bs to 0) (sym c.as_bytes-bytes.ensures.value)
    ∙ c.if-bytes-end-ne34.false in
    let last = quote_boundary self.text.now utf8 self.at self.boundary to e some quote in
    let run : between self.text.now self.at to ≡ chars c.range-run.result.now = ap chars (sym c.range-run.ensures.value) in
    let step = quote_between self.text.now utf8 self.at self.boundary to e some quote ∙ ap (λ cs. cs ++ 34 ∷ []) run in (
      subst (AllByRecursion (λ x. is_plain x ≡ true)) run
          (plain_between is_plain plain_high self.text.now utf8 self.at self.boundary to e),
      record {
        gives = step_gives self.text.now utf8 self.at (to + 1) (omega (arith, e)) self.boundary last _ step;
        moves = step_moves self.text.now utf8 self.at (to + 1) (omega (arith, e)) self.boundary last _ step;
      },
    )
