-- The verdict on a line.
use Rattle.std.specs.Prelude.{◌≡◌, ℕ, List, Option, Some}
use Rattle.std.specs.Str.{IsUtf8, chars}
use Rattle.tinyjson_lines.specs.Lines.{content}
use Rattle.tinyjson_lines.specs.Within.{IsLonger, IsWithin}
use Rattle.tinyjson_schema.specs.Valid.{Root}
use Rattle.tinyjson_schema_report.specs.Verdicts.{TextGives}
use Rattle.tinyjson_schema_report.specs.declared.verdict.Cause.TheVariants as cause
use Rattle.tinyjson_schema_report.specs.declared.verdict.Verdict.{Verdict}
use Rattle.tinyjson_schema_report.specs.declared.verdict.Verdict.TheVariants.{Refused}

-- the verdict on the text of a line without its line feed, or it is not UTF-8
abbrev pub LineGives : Root → List ℕ → Verdict → Type 0
LineGives s line (Refused cause.NotUtf8) = ¬ IsUtf8 (content line)
LineGives s line v = IsUtf8 (content line) × TextGives s (chars (content line)) v

-- the same, or the line is longer than the limit
abbrev pub GivesWithin : Option ℕ → Root → List ℕ → Verdict → Type 0
GivesWithin max s line (Refused (cause.TooLong m)) = (max ≡ Some m) × IsLonger m line
GivesWithin max s line v = IsWithin max line × LineGives s line v
