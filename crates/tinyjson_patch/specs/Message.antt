-- The messages of errors.
use Rattle.std.specs.Prelude.{ℕ, List, ◌++◌, codes}
use Rattle.std.specs.Fmt.{decimal}
use Rattle.tinyjson_patch.specs.Document.{key}
use Rattle.tinyjson_patch.specs.Operation.{reason_message}
use Rattle.tinyjson_patch.specs.declared.fault.Fault.{Fault}
use Rattle.tinyjson_patch.specs.declared.fault.Fault.TheVariants.{NoObject, Missing, NoString, NoOperation, NoPointer, LongPointer}
use Rattle.tinyjson_patch.specs.declared.fault.Member.{Member}
use Rattle.tinyjson_patch.specs.declared.fault.PatchError.{PatchError}
use Rattle.tinyjson_patch.specs.declared.fault.PatchError.TheVariants as document
use Rattle.tinyjson_patch.specs.declared.patch.ApplyError.{ApplyError}
use Rattle.tinyjson_patch.specs.declared.patch.ApplyError.TheVariants as applying
use Rattle.tinyjson_patch.specs.declared.operation.OperationError.{OperationError}
use Rattle.tinyjson_patch.specs.declared.operation.OperationError.TheVariants as operating
use Rattle.tinyjson_patch.specs.declared.operation.Reason.TheVariants as reason
use Rattle.tinyjson_pointer.specs.declared.change.InsertError.{InsertError}
use Rattle.tinyjson_pointer.specs.declared.change.InsertError.TheVariants as inserting

-- a text with the key of the member in quotes
abbrev pub member_message : Member → List ℕ → List ℕ
member_message m words = codes "'" ++ (key m ++ (codes "'" ++ words))

abbrev pub fault_message : Fault → List ℕ
fault_message NoObject = codes "it is no object"
fault_message (Missing m) = member_message m (codes " is missing")
fault_message (NoString m) = member_message m (codes " is no string")
fault_message NoOperation = codes "'op' names no operation"
fault_message (NoPointer m) = member_message m (codes " is no pointer")
fault_message (LongPointer m) = member_message m (codes " is a pointer of more than 1000 tokens")

-- a text with the index of the operation
abbrev pub numbered_message : ℕ → List ℕ → List ℕ
numbered_message n words = codes "operation " ++ (decimal n ++ (codes ": " ++ words))

abbrev pub patch_error_message : PatchError → List ℕ
patch_error_message document.NoArray = codes "it is no array"
patch_error_message (document.Malformed n f) = numbered_message n (fault_message f)
patch_error_message document.OutOfMemory = codes "out of memory"

abbrev pub apply_error_message : ApplyError → List ℕ
apply_error_message (applying.Failed n r) = numbered_message n (reason_message r)
apply_error_message applying.OutOfMemory = codes "out of memory"

abbrev pub operation_error_message : OperationError → List ℕ
operation_error_message (operating.Failed r) = reason_message r
operation_error_message operating.OutOfMemory = codes "out of memory"

-- what fails for an operation whose part is not inserted
abbrev pub failure_of : InsertError → OperationError
failure_of inserting.NoPlace = operating.Failed reason.NoPlace
failure_of inserting.OutOfMemory = operating.OutOfMemory
