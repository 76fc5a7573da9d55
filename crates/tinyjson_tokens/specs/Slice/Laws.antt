-- Lines and columns are bounded, and what is shown comes first. For private contracts.
use Rattle.std.specs.Prelude.{◌≡◌, ℕ, ◌+◌, ◌<◌, ◌==◌, cond, List, [], ◌∷◌, length, Option, Some, None, slice_get}
use Rattle.std.specs.Option.{unwrap_or}
use Rattle.std.proofs.Common.{ap, sym, ◌∙◌}
use Rattle.std.proofs.Math.Nat.{min-le_right, lt_of_le_of_lt, lt-suc_self}
use Rattle.tinyjson_grammar.specs.Position.{advance, origin, line_feeds, after_line_feed}

pub line_bound : (xs : List ℕ) → (advance origin xs).line < 18446744073709551616
unfolding advance
line_bound xs = lt_of_le_of_lt (min-le_right (1 + line_feeds xs) 18446744073709551615) (lt-suc_self 18446744073709551615)

pub column_bound : (xs : List ℕ) → (advance origin xs).column < 18446744073709551616
unfolding advance
column_bound xs =
    lt_of_le_of_lt (min-le_right (cond (line_feeds xs == 0) (0 + length xs) (after_line_feed xs)) 18446744073709551615)
    (lt-suc_self 18446744073709551615)

module _ (cs : List ℕ) where
  -- one thing is shown
  pub shown_once : (o u : Option ℕ) → slice_get cs 0 ≡ o → slice_get cs 0 ≡ u → o ≡ u
  shown_once o u a b = sym a ∙ b

-- what is shown comes first
pub shown_first : (cs zs : List ℕ) (c : ℕ) → slice_get cs 0 ≡ Some c → zs ≡ cs → (ds : List ℕ) × (zs ≡ c ∷ ds)
shown_first [] zs c s g = absurd cc
shown_first (x ∷ xs) zs c s g = (xs, g ∙ ap (λ o. unwrap_or o x ∷ xs) s)

-- where nothing is shown, nothing is left
pub nothing_left : (cs zs : List ℕ) → slice_get cs 0 ≡ None → zs ≡ cs → zs ≡ []
nothing_left [] zs s g = g
nothing_left (x ∷ xs) zs s g = absurd cc
