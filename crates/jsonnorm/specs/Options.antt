-- What the arguments ask for.
use Rattle.std.specs.Prelude.{◌≡◌, ℕ, ◌≤◌, Bool, true, false, Option, Some, None, ◌⊎◌}
use Rattle.std.specs.Prelude.{List, [], ◌∷◌, ◌++◌, length, codes}
use Rattle.std.specs.Str.Parse.{IsNumeral, digits_value}

-- `-i` where the text is to be indented
abbrev pub indent_words : Bool → List (List ℕ)
indent_words false = []
indent_words true = codes "-i" ∷ []

-- one to nine decimal digits
abbrev pub IsLimit : List ℕ → Type 0
IsLimit ds = IsNumeral 10 ds × (length ds ≤ 9)

-- `-d` and the digits of the limit, where there is one
abbrev pub AsksLimit : Option ℕ → List (List ℕ) → Type 0
AsksLimit None words = words ≡ []
AsksLimit (Some n) words = (ds : List ℕ) × (words ≡ codes "-d" ∷ ds ∷ []) × IsLimit ds × (digits_value 10 ds ≡ n)

-- The arguments ask for an indented text or not, and for a limit or none, in either order.
pub record Asks (words : List (List ℕ)) (is_indented : Bool) (limit : Option ℕ) : Type 0 where
  pub limit_words : List (List ℕ)
  pub asks : AsksLimit limit limit_words
  pub order : (words ≡ indent_words is_indented ++ limit_words) ⊎ (words ≡ limit_words ++ indent_words is_indented)
