-- One turn of a loop over a list.
use Rattle.std.proofs.Common.{◌≡◌, ◌∙◌, ◌++◌, ◌∷◌, [], ℕ, zero, suc, ◌<◌, ◌+◌, List, length, get_or, drop, refl, sym, ap, arith}
use Rattle.std.proofs.lemmas.List.{append_assoc}
use Rattle.tinyjson_schema_keywords.proofs.Callers.{drop_item}

-- the item there, whatever stands for one past the end
same_item : {X : Type 0} (xs : List X) (i : ℕ) (d : X) → i < length xs → get_or xs i d ≡ get_or xs i (get_or xs i d)
same_item [] i d h = absurd (omega arith)
same_item (y ∷ ys) zero d h = refl
same_item (y ∷ ys) (suc i) d h = same_item ys i d (omega arith)

pub drop_at : {X : Type 0} (xs : List X) (i : ℕ) (d : X) → i < length xs → drop i xs ≡ get_or xs i d ∷ drop (i + 1) xs
drop_at xs i d h = drop_item xs i (get_or xs i d) h (same_item xs i d h)

-- the front and what F gives for what is left are the whole
pub gathered : {X B : Type 0} (F : List X → List B) (G : X → List B) (xs : List X) (i : ℕ) (d : X) (front whole next : List B)
    → i < length xs → ((x : X) (ys : List X) → F (x ∷ ys) ≡ G x ++ F ys) → next ≡ front ++ G (get_or xs i d)
    → front ++ F (drop i xs) ≡ whole → next ++ F (drop (i + 1) xs) ≡ whole
gathered F G xs i d front whole next h each add left =
    let x = get_or xs i d in
    let rest = F (drop (i + 1) xs) in
    ap (λ ys. ys ++ rest) add
    ∙ (append_assoc front (G x) rest
    ∙ (ap (λ ys. front ++ ys) (sym (ap F (drop_at xs i d h) ∙ each x (drop (i + 1) xs))) ∙ left))
