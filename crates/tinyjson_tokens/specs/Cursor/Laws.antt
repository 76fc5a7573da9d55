-- What a cursor gives begins with what it shows. For private contracts.
use Rattle.std.specs.Prelude.{◌≡◌, ℕ, List, [], ◌∷◌, ◌++◌, Option, Some, None}
use Rattle.std.specs.Option.{option_to_list}
use Rattle.std.proofs.Common.{ap, sym, ◌∙◌}
use Rattle.tinyjson_tokens.specs.Cursor.{Gives, Shows}
use Rattle.tinyjson_tokens.specs.declared.cursor.Cursor.{Cursor}

module _ {S : Type 0} (steps : S → Option ℕ → S → Type 0) where
  -- where nothing is shown, nothing is left
  pub nothing_left : (p : Cursor S) (zs : List ℕ) → Shows p None → Gives steps p zs → zs ≡ []
  nothing_left p zs s g = g.is ∙ ap (λ o. option_to_list o ++ g.later) s.peeked ∙ g.ended s.ended

  -- what is shown comes first
  pub shown_first : (p : Cursor S) (zs : List ℕ) (c : ℕ) → Shows p (Some c) → Gives steps p zs → (cs : List ℕ) × (zs ≡ c ∷ cs)
  shown_first p zs c s g = (g.later, g.is ∙ ap (λ o. option_to_list o ++ g.later) s.peeked)

-- one thing is shown
pub shown_once : {S : Type 0} (p : Cursor S) (o u : Option ℕ) → Shows p o → Shows p u → o ≡ u
shown_once p o u a b = sym a.peeked ∙ b.peeked
