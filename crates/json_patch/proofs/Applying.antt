-- What is printed of a value.
use Rattle.std.proofs.Common.{◌≡◌, ◌≤◌, ℕ, Bool, List, [], false, ◌∷◌, Option, None, Some, Result, Ok, Err, inl, inr}
use Rattle.std.proofs.Common.{refl, subst, sym}
use Rattle.std.proofs.lemmas.Bool.{false≢true}
use Rattle.std.specs.Result.{IsErr}
use Rattle.std.specs.declared.io.Error.{Error}
use Rattle.std.specs.Io.KnownBytes.{Keeps}
use Rattle.tinyjson.proofs.Callers.{Appends_written, begins, goes, stops, stops_then, written_then}
use Rattle.tinyjson.specs.Characters.{line_feed}
use Rattle.tinyjson.specs.Text.{compact}
use Rattle.tinyjson.specs.Tree.{Tree}
use Rattle.tinyjson.specs.Written.{Written, WrittenPart, WritesText}
use Rattle.tinyjson_cli.specs.Layout.{laid_out}
use Rattle.tinyjson_cli.specs.Texts.{Answers}
use Rattle.tinyjson_cli.specs.declared.texts.NoAnswer.{NoAnswer}
use Rattle.tinyjson_cli.specs.declared.texts.NoAnswer.TheVariants as no
use Rattle.tinyjson_patch.specs.Copies.{all_copies, IsWithin}
use Rattle.tinyjson_patch.specs.Patched.{GivesDocument, WritesPatched}
use Rattle.tinyjson_patch.specs.declared.edit.error.EditError.{EditError}
use Rattle.tinyjson_patch.specs.declared.edit.error.EditError.TheVariants as edit
use Rattle.tinyjson_patch.specs.Operation.{Action}
use Rattle.tinyjson_patch.specs.Patch.{all_applied}
use Rattle.json_patch.specs.Apply.{GivesPatched, TellsFailure}

module _ (most : ℕ) (i : Bool) (actions : List Action) (t : Tree) (old new : Option (List ℕ)) where
  module _ (few : all_copies actions t ≤ most) (u : Tree) (is : all_applied 0 actions t ≡ Ok u) where
    pub line_written : Written old new (laid_out i u) [] → Answers (GivesPatched most i actions t) old new (Ok None)
    line_written w = (laid_out i u, (few, u, is, refl), Appends_written old new _ w)

    pub line_begun : (r : Result (Option NoAnswer) Error) → IsErr r → WrittenPart old new (laid_out i u)
        → Answers (GivesPatched most i actions t) old new r
    line_begun (Ok x) j w = absurd (false≢true j)
    line_begun (Err e) j w = inr (laid_out i u, (few, u, is, refl), w)

  -- the patch can't be applied, or copies too much
  pub failed : (T : Type 0) (e : EditError) (r : Result (Option NoAnswer) Error) → GivesDocument (all_applied 0 actions t) (Err e)
      → IsWithin {T = T} most (all_copies actions t) (Err e) → Keeps old new → TellsFailure most e r
      → Answers (GivesPatched most i actions t) old new r
  failed T (edit.Failed n x) (Ok (Some (no.No words))) g w k h = ((w, n, x, g, h), k)
  failed T (edit.Failed n x) (Ok (Some (no.Failed words))) g w k h = absurd h
  failed T (edit.Failed n x) (Ok (Some (no.Refused c))) g w k h = absurd h
  failed T (edit.Failed n x) (Ok None) g w k h = absurd h
  failed T (edit.Failed n x) (Err e) g w k h = inl (h, k)
  failed T edit.TooMuch (Ok (Some (no.No words))) g w k h = absurd h
  failed T edit.TooMuch (Ok (Some (no.Failed words))) g w k h = ((w, h), k)
  failed T edit.TooMuch (Ok (Some (no.Refused c))) g w k h = absurd h
  failed T edit.TooMuch (Ok None) g w k h = absurd h
  failed T edit.TooMuch (Err e) g w k h = inl (h, k)
  failed T edit.OutOfMemory (Ok o) g w k h = absurd h
  failed T edit.OutOfMemory (Err e) g w k h = inl (h, k)

  pub unwritten : (T : Type 0) (e : EditError) (r : Result (Option NoAnswer) Error)
      → WritesPatched (all_applied 0 actions t) old new (Err e) → IsWithin {T = T} most (all_copies actions t) (Err e)
      → TellsFailure most e r → Answers (GivesPatched most i actions t) old new r
  unwritten T (edit.Failed n x) r g w h = failed T (edit.Failed n x) r g.0 w g.1 h
  unwritten T edit.TooMuch r g w h = failed T edit.TooMuch r tt w g h
  unwritten T edit.OutOfMemory r g w h = failed T edit.OutOfMemory r tt w g h

-- the compact text is written, or a part of it
module _ (most : ℕ) (actions : List Action) (t : Tree) (old mid : Option (List ℕ)) (written : Result (Unit {0}) Error)
    (few : all_copies actions t ≤ most) (w : WritesPatched (all_applied 0 actions t) old mid (Ok written)) where
  pub text_begun : (e : Error) (r : Result (Option NoAnswer) Error) → written ≡ Err e → IsErr r
      → Answers (GivesPatched most false actions t) old mid r
  text_begun e r is j =
      line_begun most false actions t old mid few w.0 w.1 r j
      (stops (line_feed ∷ []) (subst (λ x. WritesText old mid (compact w.0) x) is w.2) begins)

  before_line : (x : Unit {0}) → written ≡ Ok x → Written old mid (laid_out false w.0) (line_feed ∷ [])
  before_line x is = goes (line_feed ∷ []) (subst (λ y. WritesText old mid (compact w.0) y) is w.2) begins

  pub text_ended : (new : Option (List ℕ)) (x : Unit {0}) → written ≡ Ok x → Written mid new (line_feed ∷ []) []
      → Answers (GivesPatched most false actions t) old new (Ok None)
  text_ended new x is k = line_written most false actions t old new few w.0 w.1 (written_then (line_feed ∷ []) [] (before_line x is) k)

  pub text_cut : (new : Option (List ℕ)) (x : Unit {0}) (r : Result (Option NoAnswer) Error) → written ≡ Ok x → IsErr r
      → WrittenPart mid new (line_feed ∷ []) → Answers (GivesPatched most false actions t) old new r
  text_cut new x r is j k = line_begun most false actions t old new few w.0 w.1 r j (stops_then (line_feed ∷ []) (before_line x is) k)

-- compact or indented, as asked, with the limit for the bytes of a text
module _ (actions : List Action) (t : Tree) (b c : Bool) (most limit : ℕ) (old new : Option (List ℕ))
    (r : Result (Option NoAnswer) Error) where
  pub in_form : b ≡ c → most ≡ limit → Answers (GivesPatched most c actions t) old new r → Answers (GivesPatched limit b actions t) old new r
  in_form e f h =
      subst (λ x. Answers (GivesPatched limit x actions t) old new r) (sym e)
      (subst (λ m. Answers (GivesPatched m c actions t) old new r) f h)
