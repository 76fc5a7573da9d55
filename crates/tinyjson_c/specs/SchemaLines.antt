-- Whether texts that are lines are valid by a schema, and the reports of those that are not.
use Rattle.std.specs.Prelude.{◌≡◌, ◌≢◌, ◌⊎◌, ℕ, ◌+◌, true, List, [], ◌∷◌, ◌++◌, Option, None, Some, Result, Ok, Err, length, string_bytes}
use Rattle.tinyjson_c.specs.Lines.{AreFirst, AreLines, IsStoppedAt, first_line, later_lines}
use Rattle.tinyjson_c.specs.Schema.{ExceedsText, IsFaultyAt, IsFound, IsMisfit, IsSchemaOf, misfit_text, report_text}
use Rattle.tinyjson_c.specs.SelectLines.{IsLineAt}
use Rattle.tinyjson_c.specs.Stop.{IsStopped, IsTextOf}
use Rattle.tinyjson_c.specs.declared.schema.Unchecked.{Unchecked}
use Rattle.tinyjson_c.specs.declared.schema.Unchecked.TheVariants as un
use Rattle.tinyjson_c.specs.declared.schema.Verdict.{Verdict}
use Rattle.tinyjson_c.specs.declared.schema.Verdict.TheVariants.{Valid, Invalid, Misfit}
use Rattle.tinyjson_c.specs.declared.stop.Stop.TheVariants as stop
use Rattle.tinyjson_c.specs.declared.valid_lines.UncheckedLine.{UncheckedLine}
use Rattle.tinyjson_grammar.specs.Characters.{line_feed}
use Rattle.tinyjson_grammar.specs.Tree.{Tree}
use Rattle.tinyjson_schema.specs.Schemas.{is_schema}
use Rattle.tinyjson_schema_report.specs.declared.located.Located.{Located}

-- the tree of each line is valid by the schema, or not for this reason
abbrev pub AreJudged : Tree → List ℕ → List Tree → List (Option Located) → Type 0
AreJudged s bytes [] [] = Unit {0}
AreJudged s bytes (t ∷ ts) (o ∷ os) = IsFound s (first_line bytes) t o × AreJudged s (later_lines bytes) ts os
AreJudged s bytes _ _ = ⊥

-- the reports of the lines from the one with this number on, each with a line feed
abbrev pub report_of : ℕ → Option Located → List ℕ
report_of n None = []
report_of n (Some l) = report_text n l ++ line_feed ∷ []

abbrev pub reports_text : ℕ → List (Option Located) → List ℕ
reports_text n [] = []
reports_text n (o ∷ os) = report_of n o ++ reports_text (n + 1) os

-- Each line's tree is valid by the schema, or not for this reason.
pub record JudgesLines (limit : Option ℕ) (text schema : List ℕ) (found : List (Option Located)) : Type 0 where
  pub by : Tree
  pub trees : List Tree
  pub is_schema : IsSchemaOf limit schema by
  pub are_lines : AreLines limit text trees
  pub are_judged : AreJudged by text trees found

-- ---- for private contracts

-- what is known of lines and a schema
abbrev pub DecidesLines : Option ℕ → List ℕ → List ℕ → Verdict → Type 0
DecidesLines limit text schema Valid = (os : List (Option Located)) × JudgesLines limit text schema os × (reports_text 1 os ≡ [])
DecidesLines limit text schema (Invalid r) =
    (os : List (Option Located)) × JudgesLines limit text schema os × (r.items ≡ reports_text 1 os) × (r.items ≢ [])
DecidesLines limit text schema (Misfit p) = (ks : List (List ℕ)) × IsMisfit limit schema ks × (string_bytes p ≡ misfit_text ks)

-- why the line with this index is not checked, by a schema
abbrev pub IsStoppedLine : Option ℕ → Tree → List ℕ → ℕ → Unchecked → Type 0
IsStoppedLine limit s text n (un.Text stop.OutOfMemory) = Unit {0}
IsStoppedLine limit s text n (un.Text e) = IsStoppedAt limit text n e
IsStoppedLine limit s text n (un.Schema e) = ⊥
IsStoppedLine limit s text n (un.StepLimit m) = (line : List ℕ) × IsLineAt limit text n line × ExceedsText limit s line m

-- the same, by the bytes of a schema
abbrev pub IsUncheckedAt : Option ℕ → List ℕ → List ℕ → ℕ → Unchecked → Type 0
IsUncheckedAt limit text schema n (un.Text stop.OutOfMemory) = Unit {0}
IsUncheckedAt limit text schema n (un.Schema s) = IsStopped limit schema s
IsUncheckedAt limit text schema n u = (b : Tree) × IsSchemaOf limit schema b × IsStoppedLine limit b text n u

-- why a line is not judged, given a schema
abbrev pub IsNotJudged : Option ℕ → Tree → List ℕ → Unchecked → Type 0
IsNotJudged limit s line (un.Text e) = IsStopped limit line e
IsNotJudged limit s line (un.Schema e) = ⊥
IsNotJudged limit s line (un.StepLimit n) = ExceedsText limit s line n

-- the report of a line is appended if it is not valid; or why it is not checked
abbrev pub JudgesLine : Option ℕ → Tree → List ℕ → ℕ → List ℕ → List ℕ → Result (Unit {0}) Unchecked → Type 0
JudgesLine limit s line n old new (Ok _) = (t : Tree) × IsTextOf limit line t
    × (o : Option Located) × IsFound s line t o × (new ≡ old ++ report_of n o)
JudgesLine limit s line n old new (Err u) = IsNotJudged limit s line u

-- `DecidesLines` and `IsUncheckedAt`, given a schema that can be applied
abbrev pub DecidesLinesBy : Option ℕ → Tree → List ℕ → Result Verdict UncheckedLine → Type 0
DecidesLinesBy limit s text (Ok Valid) = (ts : List Tree) × AreLines limit text ts
    × (os : List (Option Located)) × AreJudged s text ts os × (reports_text 1 os ≡ [])
DecidesLinesBy limit s text (Ok (Invalid r)) = (ts : List Tree) × AreLines limit text ts
    × (os : List (Option Located)) × AreJudged s text ts os × (r.items ≡ reports_text 1 os) × (r.items ≢ [])
DecidesLinesBy limit s text (Ok (Misfit p)) = ⊥
DecidesLinesBy limit s text (Err l) = IsStoppedLine limit s text l.number l.error

-- the same, given the tree of a schema
abbrev pub DecidesLinesTree : Option ℕ → Tree → List ℕ → Result Verdict UncheckedLine → Type 0
DecidesLinesTree limit s text (Ok (Misfit p)) = (ks : List (List ℕ)) × IsFaultyAt s ks × (string_bytes p ≡ misfit_text ks)
DecidesLinesTree limit s text (Ok v) = (is_schema s true s ≡ true) × DecidesLinesBy limit s text (Ok v)
DecidesLinesTree limit s text (Err l) =
    ((is_schema s true s ≡ true) × DecidesLinesBy limit s text (Err l)) ⊎ (l.error ≡ un.Schema stop.OutOfMemory)
