use Rattle.std.proofs.Common.{◌≡◌, ◌++◌, IsUtf8, chars, string_bytes}
use Rattle.std.specs.Str.Iter.{chars_rest}
use Rattle.tinyjson_schema_report.specs.Brief.{cut}
use Rattle.tinyjson_schema_report.proofs.brief.cut.Given as goal

abbrev pub invariant-loop-c : goal.invariant-loop-c
invariant-loop-c l = IsUtf8 (chars_rest l.c-iterator)
    × (string_bytes l.words ++ cut l.left (chars (chars_rest l.c-iterator)) ≡ cut 60 (chars l.text))
