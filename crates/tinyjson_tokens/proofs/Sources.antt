-- How a source goes on.
use Rattle.std.proofs.Common.{◌≡◌, ℕ, List, [], ◌∷◌, ◌++◌, Option, Some, None, MatchOption, refl, sym, ap, ◌∙◌, subst, append_assoc}
use Rattle.std.specs.List.{AllByRecursion}
use Rattle.tinyjson_grammar.specs.Position.{advance}
use Rattle.tinyjson_tokens.specs.Source.{Sight, Takes}
use Rattle.tinyjson_grammar.proofs.Callers.{advance_append, advance_nil}

pub AllByRecursion_push : (P : ℕ → Type 0) (xs : List ℕ) (y : ℕ) → AllByRecursion P xs → P y → AllByRecursion P (xs ++ y ∷ [])
AllByRecursion_push P [] y a h = (h, tt)
AllByRecursion_push P (x ∷ xs) y a h = (a.0, AllByRecursion_push P xs y a.1 h)

module _ {S : Type 0} (sight : Sight S) where
  -- nothing is taken
  pub Takes_nil : (p : S) → Takes sight p [] p
  Takes_nil p = record {
    gives = λ zs g. (zs, refl, g);
    moves = sym (advance_nil (sight.place p).line (sight.place p).column (sight.line_fits p) (sight.column_fits p));
  }

  pub Takes_append : (p q r : S) (xs ys : List ℕ) → Takes sight p xs q → Takes sight q ys r → Takes sight p (xs ++ ys) r
  Takes_append p q r xs ys a b = record {
    gives = λ zs g.
        let x = a.gives zs g in
        let y = b.gives x.0 x.2 in
        (y.0, x.1 ∙ ap (λ t. xs ++ t) y.1 ∙ sym (append_assoc xs ys y.0), y.2);
    moves = b.moves ∙ ap (λ t. advance t ys) a.moves ∙ advance_append (sight.place p) xs ys;
  }

  -- what was shown is what a call of `bump` takes
  pub Takes_shown : (p q : S) (c : ℕ) (o : Option ℕ) → o ≡ Some c → MatchOption o (Takes sight p [] q × sight.shows q None)
      (λ d. Takes sight p (d ∷ []) q) → Takes sight p (c ∷ []) q
  Takes_shown p q c o e m = subst (λ u. MatchOption u (Takes sight p [] q × sight.shows q None) (λ d. Takes sight p (d ∷ []) q)) e m
