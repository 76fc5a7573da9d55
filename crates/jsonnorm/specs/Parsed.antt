-- Which tree was read, for text that is indented or not. For private contracts.
use Rattle.std.specs.Prelude.{Bool, true, false}
use Rattle.tinyjson.specs.Tree.{Tree}
use Rattle.tinyjson_document.specs.Document as nodes
use Rattle.tinyjson_normal.specs.Normal.{HasTree}
use Rattle.jsonnorm.specs.declared.run.Parsed.{Parsed}
use Rattle.jsonnorm.specs.declared.run.Parsed.TheVariants as parsed

abbrev pub IsParsed : Bool → Parsed → Tree → Type 0
IsParsed false (parsed.Compact n) t = HasTree n t
IsParsed true (parsed.Nodes d) t = nodes.HasTree d t
IsParsed _ _ t = ⊥
