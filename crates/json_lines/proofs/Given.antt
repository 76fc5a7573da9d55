-- The next line, as it is read and given.
use Rattle.std.proofs.Common.{◌≡◌, ℕ, List, [], ◌∷◌, Option, None, Some, Result, Ok, Err, refl, sym, ap, ◌∙◌, subst}
use Rattle.std.specs.declared.io.Error.{Error}
use Rattle.tinyjson_lines.specs.Checked.{ReadsChecked, checked_as}
use Rattle.tinyjson_lines.specs.Lines.{LinesRead}
use Rattle.tinyjson_lines.specs.declared.checked.CheckedRead.{CheckedRead}
use Rattle.tinyjson_lines.specs.declared.checked.CheckedRead.TheVariants.{Whole, Rejected, End}
use Rattle.tinyjson_lines.specs.declared.refusal.Cause.TheVariants.{NotUtf8, NotJson, TooLong}
use Rattle.tinyjson_lines.specs.declared.refusal.Cause.{Cause}
use Rattle.json_lines.specs.Run.{IsGiven, ReadsNext}

module _ (unread left : Option (List ℕ)) (line : List ℕ) where
  -- one that was checked
  checked : (limit : ℕ) (r : Result CheckedRead Error) → ReadsChecked (Some limit) unread left line r
      → ReadsNext (Some limit) None unread left line r
  checked limit (Ok Whole) h = (h, tt)
  checked limit (Ok (Rejected NotUtf8)) h = (h.0, h.1, (tt, h.2))
  checked limit (Ok (Rejected (NotJson e))) h = (h.0, h.1, (tt, h.2))
  checked limit (Ok (Rejected (TooLong m))) h = absurd h.2
  checked limit (Ok End) h = h
  checked limit (Err e) h = tt

  pub checked_next : (limit max : Option ℕ) (n : ℕ) (r : Result CheckedRead Error) → limit ≡ Some n → max ≡ None
      → ReadsChecked (Some n) unread left line r → ReadsNext limit max unread left line r
  checked_next limit max n r is none h =
      subst (λ o. ReadsNext o max unread left line r) (sym is)
      (subst (λ o. ReadsNext (Some n) o unread left line r) (sym none) (checked n r h))

-- what is given of it
pub given_next : (limit max : Option ℕ) (left after : Option (List ℕ)) (read : CheckedRead) (line slice : List ℕ)
    (given : Result (List ℕ) Cause) → ¬ (read ≡ End) → slice ≡ line → given ≡ checked_as read slice
    → ReadsNext limit max left after line (Ok read) → (next : List ℕ) × LinesRead left after (next ∷ []) × IsGiven limit max next given
given_next limit max left after Whole line slice given n s e h =
    (line, h.0, subst (IsGiven limit max line) (sym (e ∙ ap Ok s)) (refl, h.1))
given_next limit max left after (Rejected c) line slice given n s e h =
    (h.0, h.1, subst (IsGiven limit max h.0) (sym e) h.2)
given_next limit max left after End line slice given n s e h = absurd (n refl)
