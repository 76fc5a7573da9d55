-- What is answered for a value is answered for its text.
use Rattle.std.proofs.Common.{◌≡◌, ℕ, Bool, false, is_some, List, Option, None, Some, Result, Ok, Err, inl, inr, ⊎_elim, length, encode_utf8_all, refl, subst, sym}
use Rattle.std.specs.declared.io.Error.{Error}
use Rattle.tinyjson.specs.Grammar.{IsText}
use Rattle.tinyjson.specs.Tree.{Tree}
use Rattle.tinyjson_cli.specs.Texts.{Answers}
use Rattle.tinyjson_cli.specs.Tools.{Answered, GivesDone, done_of}
use Rattle.tinyjson_cli.specs.Values.{GivesOfText, IsSameTool}
use Rattle.tinyjson_cli.specs.declared.status.Status.{Status}
use Rattle.tinyjson_cli.specs.declared.status.Status.TheVariants.{Done}
use Rattle.tinyjson_cli.specs.declared.texts.NoAnswer.{NoAnswer}
use Rattle.tinyjson_cli.specs.declared.values.Values.{Values}

pub no_limit : (limit : Option ℕ) (b : Bool) → b ≡ is_some limit → b ≡ false → limit ≡ None
no_limit None b e f = refl
no_limit (Some n) b e f = cc

module _ (gives : ℕ → Tree → Result (List ℕ) NoAnswer → Type 0) (limit : Option ℕ) (text : List ℕ) (t : Tree) (s : IsText limit text t)
    (old new : Option (List ℕ)) where
  answered : (r : Result (Option NoAnswer) Error) → Answers (gives (length (encode_utf8_all text)) t) old new r
      → Answers (GivesOfText gives limit text) old new r
  answered (Ok None) w = (w.0, inl (t, s, w.1), w.2)
  answered (Ok (Some why)) w = (inl (t, s, w.0), w.1)
  answered (Err e) w = ⊎_elim (λ k. inl k) (λ k. inr (k.0, inl (t, s, k.1), k.2)) w

  pub of_text : (n : ℕ) (r : Result (Option NoAnswer) Error) → n ≡ length (encode_utf8_all text) → Answers (gives n t) old new r
      → Answers (GivesOfText gives limit text) old new r
  of_text n r e w = answered r (subst (λ m. Answers (gives m t) old new r) e w)

-- an answer has the status `Done`
module _ {T : Type 0} (gives : List ℕ → Result (List ℕ) NoAnswer → Type 0) (text : List ℕ) (a b : Values T) (same : IsSameTool a b)
    (old new : Option (List ℕ)) where
  abbrev meaning : List ℕ → Result (Status × List ℕ) NoAnswer → Values T → Type 0
  meaning t f c = GivesDone (gives t) f × IsSameTool a c

  with_status : (r : Result (Option NoAnswer) Error) → Answers (gives text) old new r → Answered (meaning text) b old new (done_of r)
  with_status (Ok None) w = (w.0, ((refl, w.1), same), w.2)
  with_status (Ok (Some why)) w = ((w.0, same), w.1)
  with_status (Err e) (inl k) = inl k
  with_status (Err e) (inr w) = inr (Done, w.0, a, ((refl, w.1), (refl, refl)), w.2)

  pub of_input : (given : List ℕ) (r : Result (Option NoAnswer) Error) (done : Result (Result Status NoAnswer) Error) → given ≡ text
      → done ≡ done_of r → Answers (gives text) old new r → Answered (meaning given) b old new done
  of_input given r done t d w = subst (λ x. Answered (meaning x) b old new done) (sym t)
      (subst (λ x. Answered (meaning text) b old new x) (sym d) (with_status r w))
