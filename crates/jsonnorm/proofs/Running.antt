-- How a run ends whose text was read: it is refused, or its line is written, or a part of that.
use Rattle.std.proofs.Common.{◌≡◌, ℕ, Bool, List, [], Option, Ok, Err, sym, subst, inl, inr, ⊎_elim}
use Rattle.std.proofs.KnownBytes.{Keeps-refl}
use Rattle.std.specs.Io.KnownBytes.{Consumes, IsAtEnd}
use Rattle.std.specs.Str.{IsUtf8, chars}
use Rattle.tinyjson.specs.Error.{error_kind}
use Rattle.tinyjson.specs.Events.{TellsText}
use Rattle.tinyjson.specs.Parser.{ParsesText}
use Rattle.tinyjson.specs.Tree.{Tree}
use Rattle.tinyjson.specs.Written.{Written, WrittenPart}
use Rattle.tinyjson.specs.declared.parser.error.JsonParseError.{JsonParseError}
use Rattle.tinyjson.specs.JsonParseErrorKind.TheVariants as kind
use Rattle.jsonnorm.specs.Fault.{IsMemoryOr}
use Rattle.jsonnorm.specs.Parsed.{IsParsed}
use Rattle.jsonnorm.specs.Run.{Runs, WritesPart, line_of}
use Rattle.jsonnorm.specs.declared.fault.RunFault.{RunFault}
use Rattle.jsonnorm.specs.declared.run.Parsed.{Parsed}
use Rattle.jsonnorm.specs.declared.fault.RunFault.TheVariants.{Refused, Writing}

-- an error is the same of whatever was to be read
pub same_error : {D E : Type 0} (is : D → Tree → Type 0) (are : E → Tree → Type 0) (limit : Option ℕ) (xs : List ℕ) (e : JsonParseError)
    → TellsText is limit xs (Err e) → TellsText are limit xs (Err e)
same_error is are limit xs e h = record {
  consumed = h.consumed;
  rest = h.rest;
  whole = h.whole;
  answer = h.answer;
  refused = h.refused;
  broken_off = h.broken_off;
}

module _ (limit : Option ℕ) (is_indented : Bool) (unread left held : Option (List ℕ)) (bytes : List ℕ) (taken : Consumes unread left bytes)
    (end : IsAtEnd left) (utf8 : IsUtf8 bytes) where
  -- the error of the events is that of a value
  told : (e : JsonParseError) → TellsText (IsParsed is_indented) limit (chars bytes) (Err e) → ¬ (error_kind e ≡ kind.OutOfMemory)
      → ParsesText limit (chars bytes) (Err e)
  told e h n = record {
    consumed = h.consumed;
    rest = h.rest;
    whole = h.whole;
    answer = (h.answer.0, h.answer.1 n);
    refused = h.refused;
  }

  pub refused : (e : JsonParseError) (f : RunFault) → TellsText (IsParsed is_indented) limit (chars bytes) (Err e)
      → IsMemoryOr (error_kind e ≡ kind.OutOfMemory) (Refused e) f → Runs limit is_indented unread left held held (Err f)
  refused e f h why =
      ⊎_elim
      (λ w. subst P (sym w.1) (record { read = bytes; taken = taken; says = inl (Keeps-refl held) }))
      (λ w. subst P (sym w.1) (record {
        read = bytes;
        taken = taken;
        says = (end, Keeps-refl held, utf8, h.refused w.0, w.0, told e h w.0);
      }))
      why
    where
      P : RunFault → Type 0
      P x = Runs limit is_indented unread left held held (Err x)

  pub wrote : (n : Parsed) (holds : Option (List ℕ)) → TellsText (IsParsed is_indented) limit (chars bytes) (Ok n)
      → ((t : Tree) → IsParsed is_indented n t → Written held holds (line_of is_indented t) [])
      → Runs limit is_indented unread left held holds (Ok tt)
  wrote n holds h w =
      let a = h.answer in
      record { read = bytes; taken = taken; says = (end, (a.1, record { utf8 = utf8; text = a.2 }, w a.1 a.3)) }

  pub stopped : {M : Type 0} (n : Parsed) (holds : Option (List ℕ)) (f : RunFault)
      → TellsText (IsParsed is_indented) limit (chars bytes) (Ok n)
      → ((t : Tree) → IsParsed is_indented n t → WrittenPart held holds (line_of is_indented t)) → IsMemoryOr M Writing f
      → Runs limit is_indented unread left held holds (Err f)
  stopped n holds f h w why =
      ⊎_elim
      (λ m. subst P (sym m.1) (record { read = bytes; taken = taken; says = inr (end, part) }))
      (λ m. subst P (sym m.1) (record { read = bytes; taken = taken; says = (end, part) }))
      why
    where
      P : RunFault → Type 0
      P x = Runs limit is_indented unread left held holds (Err x)

      part : WritesPart limit is_indented bytes held holds
      part = let a = h.answer in record { tree = a.1; input = record { utf8 = utf8; text = a.2 }; written = w a.1 a.3 }
