-- What is printed, given a pointer, a form and a value.
use Rattle.std.specs.Prelude.{◌≡◌, ℕ, Bool, true, false, List, [], ◌∷◌, ◌++◌, Option, Some, None, Result, Ok, Err, ◌⊎◌}
use Rattle.std.specs.Prelude.{codes, encode_utf8_all, string_bytes}
use Rattle.tinyjson.specs.Characters.{line_feed}
use Rattle.tinyjson.specs.Tree.{Tree, null, string}
use Rattle.tinyjson_cli.specs.Failures.{failure_message, failure_status}
use Rattle.tinyjson_cli.specs.Layout.{laid_out}
use Rattle.tinyjson_cli.specs.declared.failure.Failure.{Failure}
use Rattle.tinyjson_cli.specs.declared.failure.Failure.TheVariants as failure
use Rattle.tinyjson_cli.specs.declared.status.Status.TheVariants as status
use Rattle.tinyjson_cli.specs.declared.texts.NoAnswer.{NoAnswer}
use Rattle.tinyjson_cli.specs.declared.texts.NoAnswer.TheVariants.{No}
use Rattle.tinyjson_pointer.specs.Reading.{Reads, pointer_error_message}
use Rattle.tinyjson_pointer.specs.Walk.{part_at}
use Rattle.tinyjson_pointer.specs.declared.pointer.Pointer.{Pointer}
use Rattle.tinyjson_pointer.specs.declared.pointer.PointerError.{PointerError}
use Rattle.tinyjson_pointer.specs.declared.pointer.PointerError.TheVariants as refusal
use Rattle.json_part.specs.declared.part.Form.{Form}

-- The failure has the message of the error, or memory ran out.
abbrev pub IsPointerFailure : PointerError → Failure → Type 0
IsPointerFailure refusal.OutOfMemory f = f ≡ failure.OutOfMemory
IsPointerFailure e f =
    ((failure_status f ≡ status.Misused) × (failure_message f ≡ Some (pointer_error_message e))) ⊎ (f ≡ failure.OutOfMemory)

-- The pointer of the characters, or the failure for the parser's error.
abbrev pub ReadsPointer : List ℕ → Result Pointer Failure → Type 0
ReadsPointer cs (Ok p) = Reads cs (Ok p)
ReadsPointer cs (Err f) = (e : PointerError) × Reads cs (Err e) × IsPointerFailure e f

-- what is printed for the part: its text, or with `-r` the characters of a string, and a line feed
abbrev pub printed_as : Bool → Bool → Tree → List ℕ
printed_as true is_indented (string cs) = encode_utf8_all cs ++ line_feed ∷ []
printed_as is_raw is_indented t = laid_out is_indented t

abbrev pub printed : Form → Tree → List ℕ
printed form t = printed_as form.is_raw form.is_indented t

-- the part, or with `-n` null where there is none
abbrev pub part_or_null : Bool → Option Tree → Option Tree
part_or_null true None = Some null
part_or_null or_null found = found

-- The part of the tree that the tokens name is printed, or there is none.
abbrev pub GivesPart : Form → List (List ℕ) → Tree → Result (List ℕ) NoAnswer → Type 0
GivesPart form ks t (Ok bytes) = (u : Tree) × (part_or_null form.or_null (part_at t ks) ≡ Some u) × (bytes ≡ printed form u)
GivesPart form ks t (Err (No w)) =
    (part_or_null form.or_null (part_at t ks) ≡ None) × (string_bytes w ≡ codes "the pointer names no part")
GivesPart form ks t (Err _) = ⊥

-- What is printed where there is no part: null, or nothing. For a private contract.
abbrev pub GivesMissing : Bool → Result (List ℕ) NoAnswer → Type 0
GivesMissing or_null (Ok bytes) = (or_null ≡ true) × (bytes ≡ codes "null" ++ line_feed ∷ [])
GivesMissing or_null (Err (No w)) = (or_null ≡ false) × (string_bytes w ≡ codes "the pointer names no part")
GivesMissing or_null (Err _) = ⊥
