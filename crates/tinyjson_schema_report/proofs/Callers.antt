-- Things that are taken from a list one by one, and made into others.
use Rattle.std.proofs.Common.{◌≡◌, List, [], ◌∷◌, ◌++◌, map, sym, ap, ◌∙◌, subst, append-nil, append_assoc}
use Rattle.std.proofs.lemmas.List.{map-append}
use Rattle.std.proofs.lemmas.List.Elements.{All-nil, All-push}
use Rattle.std.specs.List.{All}

-- f gives back what a thing was made of, and P holds of each
module _ {X Y : Type 0} (f : Y → X) (P : Y → Type 0) where
  pub record IsGathering (all rest : List X) (made : List Y) : Type 0 where
    pub split : map f made ++ rest ≡ all
    pub hold : All P made

  pub gathering_begins : (all rest : List X) (made : List Y) → rest ≡ all → made ≡ [] → IsGathering all rest made
  gathering_begins all rest made r m = record {
    split = ap (λ ys. map f ys ++ rest) m ∙ r;
    hold = subst (All P) (sym m) (All-nil P);
  }

  pub gathering_next : (all rest left : List X) (made more : List Y) (x : X) (y : Y) → IsGathering all rest made → rest ≡ x ∷ left
      → f y ≡ x → P y → more ≡ made ++ y ∷ [] → IsGathering all left more
  gathering_next all rest left made more x y h r e p m = record {
    split =
        ap (λ ys. map f ys ++ left) m
        ∙ (ap (λ xs. xs ++ left) (map-append f made (y ∷ []))
        ∙ (append_assoc (map f made) (f y ∷ []) left
        ∙ (ap (λ z. map f made ++ z ∷ left) e ∙ (ap (λ xs. map f made ++ xs) (sym r) ∙ h.split))));
    hold = subst (All P) (sym m) (All-push P made y h.hold p);
  }

  pub gathering_ends : (all rest : List X) (made : List Y) → rest ≡ [] → IsGathering all rest made → map f made ≡ all
  gathering_ends all rest made n h = sym (append-nil (map f made)) ∙ (ap (λ xs. map f made ++ xs) (sym n) ∙ h.split)
