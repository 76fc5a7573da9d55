-- What a cursor gives is what a parser over it has left.
use Rattle.std.proofs.Common.{◌≡◌, ℕ, Bool, true, false, List, [], ◌++◌, Option, Some, None, cond, refl, sym, true≢false}
use Rattle.std.specs.Option.{option_to_list}
use Rattle.tinyjson_tokens.specs.Cursor.{Gives, Begins}
use Rattle.tinyjson_tokens.specs.declared.cursor.Cursor.{Cursor}
use Rattle.tinyjson.specs.Parser.{Follows}

module _ {S : Type 0} (steps : S → Option ℕ → S → Type 0) where
  pub gives_follows : (p : Cursor S) (xs : List ℕ) → Gives steps p xs → (later : List ℕ) × (xs ≡ option_to_list p.peeked ++ later)
      × Follows steps (cond p.done None (Some p.it)) later
  gives_follows p xs g = (g.later, g.is, by p.done g.source g.ended)
    where
      by : (d : Bool) → (d ≡ false → Begins steps p.it g.later) → (d ≡ true → g.later ≡ [])
          → Follows steps (cond d None (Some p.it)) g.later
      by true f e = e refl
      by false f e = f refl

  pub follows_gives : (p : Cursor S) (xs later : List ℕ) → xs ≡ option_to_list p.peeked ++ later
      → Follows steps (cond p.done None (Some p.it)) later → Gives steps p xs
  follows_gives p xs later e f = record { later = later; is = e; source = λ h. on p.done h f; ended = λ h. off p.done h f }
    where
      on : (d : Bool) → d ≡ false → Follows steps (cond d None (Some p.it)) later → Begins steps p.it later
      on true h f = absurd (true≢false h)
      on false h f = f

      off : (d : Bool) → d ≡ true → Follows steps (cond d None (Some p.it)) later → later ≡ []
      off true h f = f
      off false h f = absurd (true≢false (sym h))
