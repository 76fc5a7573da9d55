-- Places in a schema, token by token.
use Rattle.std.proofs.Common.{◌≡◌, ◌∷◌, [], ◌++◌, ℕ, true, false, List, cond, sym, ap, ◌∙◌}
use Rattle.std.specs.Str.{chars}
use Rattle.tinyjson_schema_keywords.specs.Names.{name}
use Rattle.tinyjson_schema_keywords.specs.declared.keyword.Keyword.{Keyword}
use Rattle.tinyjson_schema_keywords.proofs.Callers.{name_chars}
use Rattle.tinyjson_schema.specs.Parts.{is_by_part}
use Rattle.tinyjson_schema.specs.Places.{place}

pub by_part_place : (a : Keyword) (k bs : List ℕ) (xs ys zs : List (List ℕ)) → is_by_part a ≡ true → ys ≡ k ∷ xs
    → zs ≡ chars bs ∷ ys → bs ≡ name a → zs ≡ place a k ++ xs
by_part_place a k bs xs ys zs p e f g =
    f ∙ ((λ i. name_chars a bs g i ∷ e i) ∙ ap (λ b. (name a ∷ cond b (k ∷ []) []) ++ xs) (sym p))

pub whole_place : (a : Keyword) (k bs : List ℕ) (xs zs : List (List ℕ)) → is_by_part a ≡ false
    → zs ≡ chars bs ∷ xs → bs ≡ name a → zs ≡ place a k ++ xs
whole_place a k bs xs zs p f g =
    f ∙ (ap (λ n. n ∷ xs) (name_chars a bs g) ∙ ap (λ b. (name a ∷ cond b (k ∷ []) []) ++ xs) (sym p))
