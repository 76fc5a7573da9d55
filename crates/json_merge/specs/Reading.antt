-- A patch that is read.
use Rattle.std.specs.Prelude.{◌≡◌, ℕ, List, None, Result, Ok, Err, ◌⊎◌, All, codes, length}
use Rattle.std.specs.declared.alloc.Global.{Global}
use Rattle.std.specs.declared.vec.Vec.{Vec}
use Rattle.tinyjson.specs.Events.{TellsText}
use Rattle.tinyjson.specs.Grammar.{IsText}
use Rattle.tinyjson.specs.declared.parser.error.JsonParseError.{JsonParseError}
use Rattle.tinyjson_cli.specs.Ending.{IsOfNamed}
use Rattle.tinyjson_cli.specs.Naming.{IsNoText}
use Rattle.tinyjson_cli.specs.declared.failure.Failure.{Failure}
use Rattle.tinyjson_document.specs.Document.{HasTree, document_tree}
use Rattle.tinyjson_document.specs.declared.document.Document.{Document}

-- The patch of the text, or the failure for the parser's error.
abbrev pub ReadsMergePatch : List ℕ → Result Document Failure → Type 0
ReadsMergePatch text (Ok p) = IsText None text (document_tree p)
ReadsMergePatch text (Err f) = (e : JsonParseError) × TellsText HasTree None text (Err e) × IsNoText (codes "the patch") e f

-- the patch of a file's text
abbrev pub IsOfFile : Document → Type 0
IsOfFile p = (text : List ℕ) × ReadsMergePatch text (Ok p)

-- As many patches as there are files; or the failure for a file's text, or of a file that can't be read.
abbrev pub ReadsFiles : ℕ → Result (Vec Document Global) Failure → Type 0
ReadsFiles n (Ok ps) = (length ps.items ≡ n) × All IsOfFile ps.items
ReadsFiles n (Err f) = ((text : List ℕ) × ReadsMergePatch text (Err f)) ⊎ IsOfNamed f
