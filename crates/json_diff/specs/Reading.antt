-- The old text that is read.
use Rattle.std.specs.Prelude.{ℕ, List, Option, Some, Result, Ok, Err, ◌⊎◌, IsErrAnd, codes}
use Rattle.tinyjson.specs.Events.{TellsText}
use Rattle.tinyjson.specs.Grammar.{IsText}
use Rattle.tinyjson.specs.declared.parser.error.JsonParseError.{JsonParseError}
use Rattle.tinyjson_cli.specs.Ending.{IsOfNamed}
use Rattle.tinyjson_cli.specs.Naming.{IsNoText}
use Rattle.tinyjson_cli.specs.declared.failure.Failure.{Failure}
use Rattle.tinyjson_document.specs.Document.{HasTree, document_tree}
use Rattle.tinyjson_document.specs.declared.document.Document.{Document}

-- how many containers may be nested in a text
abbrev pub text_depth : Option ℕ
text_depth = Some 1000

-- The document of the text, or the failure for the parser's error.
abbrev pub ReadsOld : List ℕ → Result Document Failure → Type 0
ReadsOld text (Ok d) = IsText text_depth text (document_tree d)
ReadsOld text (Err f) = (e : JsonParseError) × TellsText HasTree text_depth text (Err e) × IsNoText (codes "the old text") e f

-- The document of a file's text, or the failure for it; or that of a file that can't be read.
abbrev pub ReadsOldFile : Result Document Failure → Type 0
ReadsOldFile r = ((text : List ℕ) × ReadsOld text r) ⊎ IsErrAnd r IsOfNamed
