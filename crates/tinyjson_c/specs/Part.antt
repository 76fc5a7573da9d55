-- The part of a text's tree that a pointer names.
use Rattle.std.specs.Prelude.{◌≡◌, ℕ, List, Option, Some, None, Result, Ok, Err, Vec, encode_utf8_all}
use Rattle.std.specs.Str.{IsUtf8, chars}
use Rattle.std.specs.Str.Lossy.{utf8_valid_len}
use Rattle.std.specs.declared.alloc.Global.{Global}
use Rattle.tinyjson.specs.Text.{compact}
use Rattle.tinyjson_c.specs.Place.{length_place}
use Rattle.tinyjson_c.specs.Stop.{IsStopped, IsTextOf, stop_place, stop_status}
use Rattle.tinyjson_c.specs.declared.part.NoPart.{NoPart}
use Rattle.tinyjson_c.specs.declared.part.NoPart.TheVariants as none
use Rattle.tinyjson_c.specs.declared.place.TinyjsonPlace.{TinyjsonPlace}
use Rattle.tinyjson_c.specs.declared.stop.Stop.TheVariants as stop
use Rattle.tinyjson_c.specs.declared.status.TheConstants.{NOT_UTF8, NOT_FOUND, BAD_POINTER}
use Rattle.tinyjson_grammar.specs.Tree.{Tree}
use Rattle.tinyjson_pointer.specs.Reading.{IsNoPointer}
use Rattle.tinyjson_pointer.specs.Text.{pointer_text}
use Rattle.tinyjson_pointer.specs.Walk.{part_at}

-- The pointer names this part of the text's tree, or none.
pub record Leads (limit : Option ℕ) (text pointer : List ℕ) (part : Option Tree) : Type 0 where
  pub tokens : List (List ℕ)
  pub tree : Tree
  pub utf8 : IsUtf8 pointer
  pub is_pointer : chars pointer ≡ pointer_text tokens
  pub is_text : IsTextOf limit text tree
  pub is_part : part_at tree tokens ≡ part

-- the bytes are UTF-8, but not a pointer
abbrev pub IsBadPointer : List ℕ → Type 0
IsBadPointer bytes = IsUtf8 bytes × IsNoPointer (chars bytes)

-- the bytes of a pointer are not UTF-8, with this status and place
abbrev pub IsNoText : List ℕ → ℕ → TinyjsonPlace → Type 0
IsNoText bytes status place = (status ≡ NOT_UTF8) × (¬ IsUtf8 bytes) × (place ≡ length_place 1 (utf8_valid_len bytes))

-- ---- for private contracts

-- why there is no part
abbrev pub IsNoPart : Option ℕ → List ℕ → List ℕ → NoPart → Type 0
IsNoPart limit text pointer (none.Text s) = IsStopped limit text s
IsNoPart limit text pointer (none.NotUtf8 n) = ¬ IsUtf8 pointer × (n ≡ utf8_valid_len pointer)
IsNoPart limit text pointer none.BadPointer = IsBadPointer pointer
IsNoPart limit text pointer none.NotFound = Leads limit text pointer None

-- the bytes are no pointer, or memory ran out
abbrev pub IsUnread : List ℕ → NoPart → Type 0
IsUnread bytes (none.Text s) = s ≡ stop.OutOfMemory
IsUnread bytes (none.NotUtf8 n) = ¬ IsUtf8 bytes × (n ≡ utf8_valid_len bytes)
IsUnread bytes none.BadPointer = IsBadPointer bytes
IsUnread bytes none.NotFound = ⊥

-- the normal form of the part, if there is one and memory does not run out
abbrev pub IsWritten : Option Tree → Result (Vec ℕ Global) NoPart → Type 0
IsWritten part (Ok v) = (u : Tree) × (part ≡ Some u) × (v.items ≡ encode_utf8_all (compact u))
IsWritten part (Err (none.Text s)) = s ≡ stop.OutOfMemory
IsWritten part (Err none.NotFound) = part ≡ None
IsWritten part (Err _) = ⊥

abbrev pub no_part_status : NoPart → ℕ
no_part_status (none.Text s) = stop_status s
no_part_status (none.NotUtf8 n) = NOT_UTF8
no_part_status none.BadPointer = BAD_POINTER
no_part_status none.NotFound = NOT_FOUND

abbrev pub no_part_place : NoPart → TinyjsonPlace
no_part_place (none.Text s) = stop_place 0 s
no_part_place (none.NotUtf8 n) = length_place 1 n
no_part_place none.BadPointer = length_place 1 0
no_part_place none.NotFound = length_place 0 0
