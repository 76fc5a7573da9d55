-- What is printed, given a patch and a value.
use Rattle.std.specs.Fmt.{decimal}
use Rattle.std.specs.IoError.{error_kind as io_kind}
use Rattle.std.specs.Prelude.{◌≡◌, ◌≤◌, ◌<◌, ◌+◌, ◌*◌, ◌^◌, ◌-◌, ℕ, Bool, List, ◌++◌, Option, Some, Result, Ok, Err}
use Rattle.std.specs.Prelude.{min, codes, string_bytes}
use Rattle.std.specs.declared.io.Error.{Error}
use Rattle.std.specs.declared.io.ErrorKind.TheVariants as io
use Rattle.tinyjson.specs.Tree.{Tree}
use Rattle.tinyjson_cli.specs.Layout.{laid_out}
use Rattle.tinyjson_cli.specs.declared.texts.NoAnswer.{NoAnswer}
use Rattle.tinyjson_cli.specs.declared.texts.NoAnswer.TheVariants.{Refused, No, Failed}
use Rattle.tinyjson_patch.specs.Copies.{all_copies}
use Rattle.tinyjson_patch.specs.declared.edit.error.EditError.{EditError}
use Rattle.tinyjson_patch.specs.declared.edit.error.EditError.TheVariants as edit
use Rattle.tinyjson_patch.specs.Message.{numbered_message}
use Rattle.tinyjson_patch.specs.Operation.{Action, reason_message}
use Rattle.tinyjson_patch.specs.Patch.{all_applied}
use Rattle.tinyjson_patch.specs.declared.operation.Reason.{Reason}

-- how many values the copies of a patch may copy, by the number of bytes that the text has: a million and four for each, as
-- far as a machine counts
abbrev pub copy_limit : ℕ → ℕ
copy_limit bytes = min (1000000 + min (bytes * 4) (2 ^ 64 - 1)) (2 ^ 64 - 1)

-- the message of a patch that copies more values
abbrev pub copies_message : ℕ → List ℕ
copies_message most = codes "the patch copies more than " ++ (decimal most ++ codes " values")

-- The text of the tree after the operations; or the number of the one that fails, and why; or they copy more than `most` values.
abbrev pub GivesPatched : ℕ → Bool → List Action → Tree → Result (List ℕ) NoAnswer → Type 0
GivesPatched most is_indented actions t (Ok bytes) =
    (all_copies actions t ≤ most) × (u : Tree) × (all_applied 0 actions t ≡ Ok u) × (bytes ≡ laid_out is_indented u)
GivesPatched most is_indented actions t (Err (No w)) =
    (all_copies actions t ≤ most) × (n : ℕ) × (r : Reason) × (all_applied 0 actions t ≡ Err (n, r))
    × (string_bytes w ≡ numbered_message n (reason_message r))
GivesPatched most is_indented actions t (Err (Failed w)) = (most < all_copies actions t) × (string_bytes w ≡ copies_message most)
GivesPatched most is_indented actions t (Err (Refused c)) = ⊥

-- What is returned where the patch is not applied. For private contracts.
abbrev pub TellsFailure : ℕ → EditError → Result (Option NoAnswer) Error → Type 0
TellsFailure most (edit.Failed n r) (Ok (Some (No w))) = string_bytes w ≡ numbered_message n (reason_message r)
TellsFailure most edit.TooMuch (Ok (Some (Failed w))) = string_bytes w ≡ copies_message most
TellsFailure most e (Ok o) = ⊥
TellsFailure most e (Err x) = io_kind x ≡ io.OutOfMemory
