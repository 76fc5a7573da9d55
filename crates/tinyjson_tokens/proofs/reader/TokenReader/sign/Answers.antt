use Rattle.std.proofs.Common.{◌≡◌, ◌∷◌, [], Some, true, refl, sym, subst, ⊎_elim}
use Rattle.tinyjson_number.specs.Numeral.{is_sign}
use Rattle.tinyjson_tokens.proofs.Sources.{Takes_append, Takes_shown}
use Rattle.tinyjson_tokens.proofs.reader.TokenReader.sign.Goals as goal

pub returns-in-Some-clause-signs : goal.returns-in-Some-clause-signs
returns-in-Some-clause-signs g c =
    let x = c.in-Some.c in
    let sight = g.S.Source.sight in
    record {
      sign = Some x;
      known = ⊎_elim (λ e. subst (λ d. is_sign d ≡ true) (sym e) refl)
          (λ e. subst (λ d. is_sign d ≡ true) (sym e.1) refl) c.if-c-eq45.either;
      minus = refl;
      takes = Takes_append sight _ _ _ [] (x ∷ []) c.peek.ensures.takes
          (Takes_shown sight _ _ x _ (c.bump.ensures.shown (Some x) c.in-Some.ensures.shows) c.bump.ensures.takes);
      none = λ e. absurd (cc e);
    }
