-- What a run does.
use Rattle.std.specs.Prelude.{◌≡◌, ℕ, Bool, true, false, List, [], ◌∷◌, ◌++◌, Option, Result, Ok, Err, ◌⊎◌}
use Rattle.std.specs.Prelude.{codes, encode_utf8_all}
use Rattle.std.specs.Io.KnownBytes.{Consumes, IsAtEnd, Keeps}
use Rattle.std.specs.Str.{IsUtf8, chars}
use Rattle.tinyjson.specs.Characters.{line_feed}
use Rattle.tinyjson.specs.Error.{error_kind}
use Rattle.tinyjson.specs.Grammar.{IsText, IsAccepted}
use Rattle.tinyjson.specs.Parser.{ParsesText}
use Rattle.tinyjson.specs.Text.{compact, indented}
use Rattle.tinyjson.specs.Tree.{Tree}
use Rattle.tinyjson.specs.Written.{Written, WrittenPart}
use Rattle.tinyjson.specs.JsonParseErrorKind.TheVariants as kind
use Rattle.jsonnorm.specs.declared.fault.RunFault.{RunFault}
use Rattle.jsonnorm.specs.declared.fault.RunFault.TheVariants.{Refused, NotUtf8, OutOfMemory, Reading, Writing}

-- the text of a tree, indented with two spaces where that is asked for
abbrev pub normal_text : Bool → Tree → List ℕ
normal_text false t = compact t
normal_text true t = indented t (codes "  ") 0

-- the bytes to write: the text in UTF-8, and a line feed
abbrev pub line_of : Bool → Tree → List ℕ
line_of is_indented t = encode_utf8_all (normal_text is_indented t) ++ line_feed ∷ []

-- The bytes are the UTF-8 of a text of the grammar, with its tree.
pub record IsInput (limit : Option ℕ) (bytes : List ℕ) (t : Tree) : Type 0 where
  pub utf8 : IsUtf8 bytes
  pub text : IsText limit (chars bytes) t

-- Of an accepted text a prefix of the line is written.
pub record WritesPart (limit : Option ℕ) (is_indented : Bool) (bytes : List ℕ) (held holds : Option (List ℕ)) : Type 0 where
  pub tree : Tree
  pub input : IsInput limit bytes tree
  pub written : WrittenPart held holds (line_of is_indented tree)

module _ (limit : Option ℕ) (is_indented : Bool) (bytes : List ℕ) (left held holds : Option (List ℕ)) where
  -- What a result says of the bytes that were read, of what the reader has left, and of what the writer held and holds.
  abbrev pub AnswerSays : Result (Unit {0}) RunFault → Type 0
  AnswerSays (Ok _) = IsAtEnd left × ((t : Tree) × IsInput limit bytes t × Written held holds (line_of is_indented t) [])
  AnswerSays (Err (Refused e)) =
      IsAtEnd left × Keeps held holds × IsUtf8 bytes × ¬ IsAccepted limit (chars bytes)
      × ¬ (error_kind e ≡ kind.OutOfMemory) × ParsesText limit (chars bytes) (Err e)
  AnswerSays (Err NotUtf8) = IsAtEnd left × Keeps held holds × ¬ IsUtf8 bytes
  AnswerSays (Err OutOfMemory) = Keeps held holds ⊎ (IsAtEnd left × WritesPart limit is_indented bytes held holds)
  AnswerSays (Err Reading) = Keeps held holds
  AnswerSays (Err Writing) = IsAtEnd left × WritesPart limit is_indented bytes held holds

-- A run took some bytes of the reader, from its beginning, and then returned.
pub record Runs (limit : Option ℕ) (is_indented : Bool) (unread left held holds : Option (List ℕ))
    (result : Result (Unit {0}) RunFault) : Type 0 where
  pub read : List ℕ
  pub taken : Consumes unread left read
  pub says : AnswerSays limit is_indented read left held holds result
