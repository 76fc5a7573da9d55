-- All that a value violates of a schema, with the words.
use Rattle.std.specs.List.{All}
use Rattle.std.specs.Prelude.{ℕ, List, IsSome, map}
use Rattle.tinyjson.specs.Tree.{Tree}
use Rattle.tinyjson_pointer.specs.Tokens.{tokens_of}
use Rattle.tinyjson_pointer.specs.Walk.{part_at}
use Rattle.tinyjson_schema.specs.Every.{AreFirst, AreNoneIfValid}
use Rattle.tinyjson_schema.specs.Valid.{Root}
use Rattle.tinyjson_schema_report.specs.Finds.{HasWords}
use Rattle.tinyjson_schema_report.specs.declared.found.Finding.{Finding}

-- the place in the value leads to a part of the tree t
abbrev pub IsAtPart : Tree → Finding → Type 0
IsAtPart t f = IsSome (part_at t (tokens_of f.violation.instance_location))

-- The first violations of the root schema by the tree t, up to the limit, within n nested schemas; their words; and each is at a part
-- of t.
abbrev pub FindsEvery : ℕ → ℕ → Root → Tree → List Finding → Type 0
FindsEvery limit n root t fs = AreFirst limit root n t (map (λ f. f.violation) fs)
    × AreNoneIfValid limit root t (map (λ f. f.violation) fs) × All (HasWords root.tree t) fs × All (IsAtPart t) fs
