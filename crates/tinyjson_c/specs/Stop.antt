-- Why a call stops at a text.
use Rattle.std.specs.Prelude.{◌≡◌, ℕ, List, ◌++◌, Option, ◌⊎◌}
use Rattle.std.specs.Str.{IsUtf8, chars}
use Rattle.std.specs.Str.Lossy.{utf8_valid_len}
use Rattle.tinyjson.specs.Error.{JsonParseErrorKind, error_kind, error_position}
use Rattle.tinyjson.specs.declared.parser.error.JsonParseError.{JsonParseError}
use Rattle.tinyjson_c.specs.Place.{error_place, length_place, memory_place}
use Rattle.tinyjson_c.specs.declared.place.TinyjsonPlace.{TinyjsonPlace}
use Rattle.tinyjson_c.specs.declared.status.TheConstants.{REFUSED, NOT_UTF8, OUT_OF_MEMORY}
use Rattle.tinyjson_c.specs.declared.stop.Stop.{Stop}
use Rattle.tinyjson_c.specs.declared.stop.Stop.TheVariants as stop
use Rattle.tinyjson_grammar.specs.Grammar.{IsText, IsAccepted}
use Rattle.tinyjson_grammar.specs.Position.{Position, origin, advance}
use Rattle.tinyjson_grammar.specs.Refusal.{RefusalSays}
use Rattle.tinyjson_grammar.specs.Tree.{Tree}
use Rattle.tinyjson_grammar.specs.declared.error.JsonParseErrorKind.TheVariants as kind

-- the bytes are a text in UTF-8 that has this tree
abbrev pub IsTextOf : Option ℕ → List ℕ → Tree → Type 0
IsTextOf limit bytes t = IsUtf8 bytes × IsText limit (chars bytes) t

-- the bytes are a text in UTF-8 that has a tree
abbrev pub IsAcceptedText : Option ℕ → List ℕ → Type 0
IsAcceptedText limit bytes = IsUtf8 bytes × IsAccepted limit (chars bytes)

-- The characters are no text, with this kind of error at this position.
pub record IsRefused (limit : Option ℕ) (xs : List ℕ) (k : JsonParseErrorKind) (position : Position) : Type 0 where
  pub consumed : List ℕ
  pub rest : List ℕ
  pub whole : xs ≡ consumed ++ rest
  pub place : position ≡ advance origin consumed
  pub says : RefusalSays limit k consumed rest
  pub not_for_memory : ¬ (k ≡ kind.OutOfMemory)
  pub refused : ¬ IsAccepted limit xs

-- A call stops at its text with this index, which has these bytes.
pub record Stops (limit : Option ℕ) (bytes : List ℕ) (text status : ℕ) (place : TinyjsonPlace) : Type 0 where
  pub refused : status ≡ REFUSED → IsUtf8 bytes × (k : JsonParseErrorKind) × (p : Position)
      × IsRefused limit (chars bytes) k p × (place ≡ error_place text k p)
  pub not_utf8 : status ≡ NOT_UTF8 → ¬ IsUtf8 bytes × (place ≡ length_place text (utf8_valid_len bytes))
  pub memory : status ≡ OUT_OF_MEMORY → IsUtf8 bytes × (place ≡ memory_place text)
  pub one_of : (status ≡ REFUSED) ⊎ ((status ≡ NOT_UTF8) ⊎ (status ≡ OUT_OF_MEMORY))

-- ---- for private contracts

-- why these bytes have no answer
abbrev pub IsStopped : Option ℕ → List ℕ → Stop → Type 0
IsStopped limit bytes (stop.Refused e) = IsUtf8 bytes × IsRefused limit (chars bytes) (error_kind e) (error_position e)
IsStopped limit bytes (stop.NotUtf8 n) = ¬ IsUtf8 bytes × (n ≡ utf8_valid_len bytes)
IsStopped limit bytes stop.OutOfMemory = IsUtf8 bytes

-- the reason for an error of the parser
abbrev pub StopOf : JsonParseError → Stop → Type 0
StopOf e s = ((error_kind e ≡ kind.OutOfMemory) × (s ≡ stop.OutOfMemory)) ⊎ ((¬ (error_kind e ≡ kind.OutOfMemory)) × (s ≡ stop.Refused e))

abbrev pub stop_status : Stop → ℕ
stop_status (stop.Refused e) = REFUSED
stop_status (stop.NotUtf8 n) = NOT_UTF8
stop_status stop.OutOfMemory = OUT_OF_MEMORY

abbrev pub stop_place : ℕ → Stop → TinyjsonPlace
stop_place text (stop.Refused e) = error_place text (error_kind e) (error_position e)
stop_place text (stop.NotUtf8 n) = length_place text n
stop_place text stop.OutOfMemory = memory_place text
