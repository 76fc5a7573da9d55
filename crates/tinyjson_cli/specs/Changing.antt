-- Why a text has no answer, and whether other files are changed then.
use Rattle.std.specs.Prelude.{◌≡◌, ℕ, Bool, true, false, List, Err, ◌⊎◌}
use Rattle.tinyjson_cli.specs.Texts.{failure_of}
use Rattle.tinyjson_cli.specs.Tools.{Meaning, Source}
use Rattle.tinyjson_cli.specs.declared.failure.Failure.{Failure}
use Rattle.tinyjson_cli.specs.declared.failure.Failure.TheVariants as failure
use Rattle.tinyjson_cli.specs.declared.texts.NoAnswer.{NoAnswer}
use Rattle.tinyjson_cli.specs.declared.texts.NoAnswer.TheVariants as no

-- the failure of a file in place that has no answer: a limit that is met is about this file alone
abbrev pub failure_in_place : NoAnswer → Failure
failure_in_place (no.Failed w) = failure.No w
failure_in_place why = failure_of why

-- There is no answer for the text, for this reason; or memory ran out.
abbrev pub IsUnanswered : {T : Type 0} → Meaning T → T → T → Source → List ℕ → Failure → Type 0
IsUnanswered gives old new source text f =
    ((why : NoAnswer) × gives old source text (Err why) new × (f ≡ failure_in_place why)) ⊎ (f ≡ failure.OutOfMemory)

-- the failures that are not about one input
abbrev pub is_last : Failure → Bool
is_last failure.OutOfMemory = true
is_last failure.Closed = true
is_last (failure.Writing e) = true
is_last _ = false
