-- The verdict on a text, and all that its value violates.
use Rattle.std.specs.List.{All}
use Rattle.std.specs.Prelude.{◌≡◌, ℕ, List, [], ◌∷◌, Option, Some, None, Ok, Err, map}
use Rattle.tinyjson.specs.Error.{error_kind}
use Rattle.tinyjson.specs.Grammar.{IsText, IsAccepted}
use Rattle.tinyjson.specs.JsonParseErrorKind.TheVariants as kind
use Rattle.tinyjson.specs.Parser.{ParsesText}
use Rattle.tinyjson.specs.Tree.{Tree}
use Rattle.tinyjson.specs.declared.parser.error.JsonParseError.{JsonParseError}
use Rattle.tinyjson_schema.specs.Nested.{Nests}
use Rattle.tinyjson_schema.specs.Reading.{root_in}
use Rattle.tinyjson_schema.specs.Valid.{Root}
use Rattle.tinyjson_schema.specs.declared.walk.CheckError.TheVariants as check
use Rattle.tinyjson_schema_report.specs.Every.{FindsEvery}
use Rattle.tinyjson_schema_report.specs.Finds.{FindsIn}
use Rattle.tinyjson_schema_report.specs.Located.{IsLocated}
use Rattle.tinyjson_schema_report.specs.declared.verdict.Cause.TheVariants as cause
use Rattle.tinyjson_schema_report.specs.declared.verdict.Judge.{Judge}
use Rattle.tinyjson_schema_report.specs.declared.verdict.Verdict.{Verdict}
use Rattle.tinyjson_schema_report.specs.declared.verdict.Verdict.TheVariants.{Valid, Invalid, Refused}
use Rattle.tinyjson_schema_report.specs.declared.verdict.every.Every.{Every}
use Rattle.tinyjson_schema_report.specs.declared.verdict.every.Every.TheVariants as every

-- how many containers may be nested, and how many nested schemas may be applied
abbrev pub depth_limit : Option ℕ
depth_limit = Some 100

abbrev pub step_limit : ℕ
step_limit = 200

-- the root schema, in which `format` is an assertion or not
abbrev pub judged : Judge → Root
judged j = root_in j.schema.now j.formats

-- the verdict on the tree t of the text xs by the schema s
abbrev pub ValueGives : List ℕ → Root → Tree → Verdict → Type 0
ValueGives xs s t Valid = FindsIn step_limit s t (Ok None)
ValueGives xs s t (Invalid l) = FindsIn step_limit s t (Ok (Some l.finding)) × IsLocated xs l
ValueGives xs s t (Refused cause.TooDeep) = FindsIn step_limit s t (Err check.TooDeep)
ValueGives xs s t (Refused cause.TooMuch) = FindsIn step_limit s t (Err check.TooMuch)
ValueGives xs s t (Refused _) = ⊥

-- the characters are no JSON text, with this error of the parser
abbrev pub IsNoText : List ℕ → JsonParseError → Type 0
IsNoText xs e = ParsesText depth_limit xs (Err e) × ¬ (error_kind e ≡ kind.OutOfMemory) × ¬ IsAccepted depth_limit xs

-- the characters are a JSON text with this verdict on its value, or they are no JSON text
abbrev pub TextGives : Root → List ℕ → Verdict → Type 0
TextGives s xs (Refused (cause.NotJson e)) = IsNoText xs e
TextGives s xs v = (t : Tree) × IsText depth_limit xs t × ValueGives xs s t v

-- ---- all that a value violates

-- The first violations of the root schema by the tree t of the text xs, up to the limit, each with its place; or more schemas are
-- nested than may be.
abbrev pub ValueGivesEvery : ℕ → List ℕ → Root → Tree → Every → Type 0
ValueGivesEvery most xs s t (every.Found ls) =
    FindsEvery most step_limit s t (map (λ l. l.finding) ls.items) × All (IsLocated xs) ls.items
ValueGivesEvery most xs s t (every.Refused cause.TooDeep) = Nests s.tree step_limit s.tree t
ValueGivesEvery most xs s t (every.Refused cause.TooMuch) = Unit {0}
ValueGivesEvery most xs s t (every.Refused _) = ⊥

-- the characters are a JSON text with these violations by its value, or they are no JSON text
abbrev pub TextGivesEvery : ℕ → Root → List ℕ → Every → Type 0
TextGivesEvery most s xs (every.Refused (cause.NotJson e)) = IsNoText xs e
TextGivesEvery most s xs v = (t : Tree) × IsText depth_limit xs t × ValueGivesEvery most xs s t v

-- the violations of the verdict: none or one
abbrev pub IsAs : Verdict → Every → Type 0
IsAs Valid (every.Found ls) = ls.items ≡ []
IsAs (Invalid l) (every.Found ls) = ls.items ≡ l ∷ []
IsAs (Refused c) (every.Refused d) = d ≡ c
IsAs _ _ = ⊥

-- the same up to a limit, or else those of the verdict on the text
abbrev pub TextGivesAs : Option ℕ → Root → List ℕ → Every → Type 0
TextGivesAs (Some most) s xs e = TextGivesEvery most s xs e
TextGivesAs None s xs e = (v : Verdict) × TextGives s xs v × IsAs v e
