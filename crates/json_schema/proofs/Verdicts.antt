-- The verdict on a line is that on its text.
use Rattle.std.proofs.Common.{ℕ, List, Result, Ok, Err}
use Rattle.std.specs.Prelude.{IfOk}
use Rattle.std.specs.Str.{IsUtf8, chars}
use Rattle.tinyjson_lines.specs.Lines.{content}
use Rattle.tinyjson_schema.specs.Valid.{Root}
use Rattle.tinyjson_schema_report.specs.Verdicts.{TextGives}
use Rattle.tinyjson_schema_report.specs.declared.verdict.Cause.TheVariants as cause
use Rattle.tinyjson_schema_report.specs.declared.verdict.Verdict.{Verdict}
use Rattle.tinyjson_schema_report.specs.declared.verdict.Verdict.TheVariants.{Valid, Invalid, Refused}
use Rattle.json_schema.specs.Verdicts.{LineGives}

line_gives : (s : Root) (line : List ℕ) (v : Verdict) → IsUtf8 (content line) → TextGives s (chars (content line)) v → LineGives s line v
line_gives s line Valid u h = (u, h)
line_gives s line (Invalid f) u h = (u, h)
line_gives s line (Refused cause.NotUtf8) u h = absurd h.2
line_gives s line (Refused (cause.NotJson e)) u h = (u, h)
line_gives s line (Refused cause.TooDeep) u h = (u, h)
line_gives s line (Refused cause.TooMuch) u h = (u, h)
line_gives s line (Refused (cause.TooLong m)) u h = (u, h)

pub gives_of_line : {E : Type 0} (s : Root) (line : List ℕ) (r : Result Verdict E) → IsUtf8 (content line)
    → IfOk r (TextGives s (chars (content line))) → IfOk r (LineGives s line)
gives_of_line s line (Ok v) u h = line_gives s line v u h
gives_of_line s line (Err e) u h = tt
