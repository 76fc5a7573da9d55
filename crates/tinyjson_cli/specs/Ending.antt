-- How a program ends that does not answer its inputs.
use Rattle.std.specs.Prelude.{◌≡◌, ℕ, Bool, true, false, ◌||◌, List, Result, Ok, Err, ⊤}
use Rattle.tinyjson_cli.specs.Arguments.{Given, Fault, given_of, is_given, words_give}
use Rattle.tinyjson_cli.specs.declared.arguments.Arguments.{Arguments}
use Rattle.tinyjson_cli.specs.declared.arguments.Known.{Known}
use Rattle.tinyjson_cli.specs.declared.arguments.Misuse.{Misuse}
use Rattle.tinyjson_cli.specs.declared.arguments.Misuse.TheVariants as misuse
use Rattle.tinyjson_cli.specs.declared.arguments.Next.TheVariants.{Any}
use Rattle.tinyjson_cli.specs.declared.failure.Failure.{Failure}
use Rattle.tinyjson_cli.specs.declared.failure.Failure.TheVariants as is
use Rattle.tinyjson_cli.specs.declared.status.Status.{Status}
use Rattle.tinyjson_cli.specs.declared.status.Status.TheVariants.{Done, No, Misused, Refused, Failed}

abbrev pub misuse_status : Misuse → Status
misuse_status misuse.OutOfMemory = Failed
misuse_status _ = Misused

-- the statuses of arguments that can't be read
abbrev pub IsOfArguments : Status → Type 0
IsOfArguments Misused = ⊤
IsOfArguments Failed = ⊤
IsOfArguments _ = ⊥

-- the statuses of a page that is printed, or can't be
abbrev pub IsOfPage : Status → Type 0
IsOfPage Done = ⊤
IsOfPage Failed = ⊤
IsOfPage _ = ⊥

-- `-h` or `-V` is given
abbrev pub asks_page : Given → Bool
asks_page a = is_given 104 a || is_given 86 a

-- The words give these arguments, ask for a page, or have a fault. `Failed`: of memory and writing nothing is said here.
abbrev pub Asks : List Known → List (List ℕ) → Result Arguments Status → Type 0
Asks known words (Ok a) = (words_give known Any words ≡ Ok (given_of a)) × (asks_page (given_of a) ≡ false)
Asks known words (Err Done) = (g : Given) × (words_give known Any words ≡ Ok g) × (asks_page g ≡ true)
Asks known words (Err Misused) = (f : Fault) × (words_give known Any words ≡ Err f)
Asks known words (Err Failed) = ⊤
Asks known words (Err _) = ⊥

-- the failures of an input that can't be read
abbrev pub IsOfInput : Failure → Type 0
IsOfInput (is.NotUtf8 p) = ⊤
IsOfInput (is.Reading e) = ⊤
IsOfInput is.OutOfMemory = ⊤
IsOfInput _ = ⊥

-- the failures of a file that the arguments name and that can't be read
abbrev pub IsOfNamed : Failure → Type 0
IsOfNamed (is.Misused w) = ⊤
IsOfNamed is.OutOfMemory = ⊤
IsOfNamed _ = ⊥
