-- A whole input that was answered, after the output was flushed.
use Rattle.std.proofs.Common.{◌≡◌, ℕ, List, [], Option, Result, Ok, Err, inl, inr, refl, sym, subst, append-nil}
use Rattle.std.proofs.KnownBytes.{Appends-nil, Appends-kept, Keeps-trans}
use Rattle.std.specs.Io.KnownBytes.{Appends, Keeps}
use Rattle.std.specs.declared.io.Error.{Error}
use Rattle.tinyjson.proofs.Callers.{written_same}
use Rattle.tinyjson.specs.Written.{WrittenPart}
use Rattle.tinyjson_cli.specs.Runs.{AnswersFile, Finishes, whole}
use Rattle.tinyjson_cli.specs.Tools.{AnswersInput, Meaning}
use Rattle.tinyjson_cli.specs.declared.failure.Failure.{Failure}
use Rattle.tinyjson_cli.specs.declared.status.Status.{Status}
use Rattle.tinyjson_cli.specs.declared.texts.NoAnswer.{NoAnswer}

all_written : (held holds : Option (List ℕ)) (bytes : List ℕ) → Appends held holds bytes → WrittenPart held holds bytes
all_written held holds bytes a = record { rest = []; written = record { done = bytes; split = sym (append-nil bytes); appended = a } }

none_written : (held holds : Option (List ℕ)) → Keeps held holds → WrittenPart held holds []
none_written held holds k = all_written held holds [] (Appends-kept held held holds [] (Appends-nil held) k)

part_written : (held mid holds : Option (List ℕ)) (bytes : List ℕ) → WrittenPart held mid bytes → Keeps mid holds
    → WrittenPart held holds bytes
part_written held mid holds bytes w k = record { rest = w.rest; written = written_same w.written k }

module _ {T : Type 0} (gives : Meaning T) (old new : T) (file : Option (List ℕ)) (text : List ℕ)
    (held mid holds : Option (List ℕ)) (gathered : List ℕ) (kept : Keeps mid holds) where
  pub finished : (a : Result (Result Status NoAnswer) Error) (r : Result Status Failure)
      → AnswersInput gives old new (whole file) text held mid a → Finishes a gathered r
      → AnswersFile gives old new file held holds gathered r
  finished (Ok (Ok s)) r w (inl e) = subst (AnswersFile gives old new file held holds gathered) (sym e.0)
      (w.0, (text, w.1), Appends-kept held mid holds w.0 w.2 kept, e.1)
  finished (Ok (Ok s)) (Ok x) w (inr i) = absurd i
  finished (Ok (Ok s)) (Err f) w (inr i) = inr (
    i,
    w.0,
    inr (text, s, new, w.1),
    all_written held holds w.0 (Appends-kept held mid holds w.0 w.2 kept),
  )
  finished (Ok (Err why)) r w (inl e) = subst (AnswersFile gives old new file held holds gathered) (sym e.0)
      (inl (inr (text, why, w.0, refl), Keeps-trans held mid holds w.1 kept, e.1))
  finished (Ok (Err why)) (Ok x) w (inr i) = absurd i
  finished (Ok (Err why)) (Err f) w (inr i) =
      inr (i, [], inl refl, none_written held holds (Keeps-trans held mid holds w.1 kept))
  finished (Err e) (Ok x) w i = absurd i
  finished (Err e) (Err f) (inl w) i = inr (i, [], inl refl, none_written held holds (Keeps-trans held mid holds w.1 kept))
  finished (Err e) (Err f) (inr w) i = inr (i, w.1, inr (text, w.0, w.2, w.3), part_written held mid holds w.1 w.4 kept)
