-- A patch that is read.
use Rattle.std.specs.Prelude.{◌≡◌, ℕ, List, Option, Some, Result, Ok, Err, ◌⊎◌, IsErrAnd, codes}
use Rattle.tinyjson.specs.Grammar.{IsText}
use Rattle.tinyjson.specs.Parser.{ParsesText}
use Rattle.tinyjson.specs.Tree.{Tree}
use Rattle.tinyjson.specs.declared.parser.error.JsonParseError.{JsonParseError}
use Rattle.tinyjson_cli.specs.Ending.{IsOfNamed}
use Rattle.tinyjson_cli.specs.Naming.{IsMisuse, IsNoText}
use Rattle.tinyjson_cli.specs.declared.failure.Failure.{Failure}
use Rattle.tinyjson_cli.specs.declared.failure.Failure.TheVariants as failure
use Rattle.tinyjson_patch.specs.Document.{ReadsPatch}
use Rattle.tinyjson_patch.specs.Message.{patch_error_message}
use Rattle.tinyjson_patch.specs.declared.fault.PatchError.{PatchError}
use Rattle.tinyjson_patch.specs.declared.fault.PatchError.TheVariants as document
use Rattle.tinyjson_patch.specs.declared.patch.Patch.{Patch}

-- how many containers may be nested in a patch
abbrev pub patch_depth : Option ℕ
patch_depth = Some 1000

-- The failure has the message of the error, or memory ran out.
abbrev pub IsNoPatch : PatchError → Failure → Type 0
IsNoPatch document.OutOfMemory f = f ≡ failure.OutOfMemory
IsNoPatch e f = IsMisuse (codes "the patch") (patch_error_message e) f

-- The patch of a document, or the failure for the error.
abbrev pub ReadsDocument : Tree → Result Patch Failure → Type 0
ReadsDocument d (Ok p) = ReadsPatch d (Ok p)
ReadsDocument d (Err f) = (e : PatchError) × ReadsPatch d (Err e) × IsNoPatch e f

-- The same for the document of a text; or that is no JSON text, with the parser's error.
abbrev pub ReadsPatchText : List ℕ → Result Patch Failure → Type 0
ReadsPatchText text (Ok p) = (d : Tree) × IsText patch_depth text d × ReadsDocument d (Ok p)
ReadsPatchText text (Err f) =
    ((e : JsonParseError) × ParsesText patch_depth text (Err e) × IsNoText (codes "the patch") e f)
    ⊎ ((d : Tree) × IsText patch_depth text d × ReadsDocument d (Err f))

-- The patch of a file's text, or the failure for it; or that of a file that can't be read.
abbrev pub ReadsPatchFile : Result Patch Failure → Type 0
ReadsPatchFile r = ((text : List ℕ) × ReadsPatchText text r) ⊎ IsErrAnd r IsOfNamed
