-- The errors of a run.
use Rattle.std.specs.Prelude.{◌≡◌, ℕ, ◌⊎◌, List, codes}
use Rattle.tinyjson.specs.Error.{error_message}
use Rattle.jsonnorm.specs.declared.fault.RunFault.{RunFault}
use Rattle.jsonnorm.specs.declared.fault.RunFault.TheVariants.{Refused, NotUtf8, OutOfMemory, Reading, Writing}

abbrev pub status_of : RunFault → ℕ
status_of (Refused e) = 1
status_of NotUtf8 = 3
status_of OutOfMemory = 4
status_of Reading = 4
status_of Writing = 4

-- the message of an error; of a text that is refused the parser's
abbrev pub fault_message : RunFault → List ℕ
fault_message (Refused e) = error_message e
fault_message NotUtf8 = codes "input is not UTF-8"
fault_message OutOfMemory = codes "out of memory"
fault_message Reading = codes "reading failed"
fault_message Writing = codes "writing failed"

-- `OutOfMemory` if memory ran out, and otherwise the other one
abbrev pub IsMemoryOr : Type 0 → RunFault → RunFault → Type 0
IsMemoryOr wanted other fault = (wanted × (fault ≡ OutOfMemory)) ⊎ (¬ wanted × (fault ≡ other))
