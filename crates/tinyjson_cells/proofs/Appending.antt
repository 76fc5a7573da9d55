-- Texts that grow by more than is meant, of which a part stays.
use Rattle.std.proofs.Common.{◌≡◌, ℕ, ◌+◌, ◌≤◌, List, [], ◌∷◌, ◌++◌}
use Rattle.std.proofs.Common.{length, take, drop, sym, ◌∙◌, ap, subst, append_assoc, length-append}
use lib.Seq.{take-append-add}
use Rattle.std.proofs.lemmas.List.{take-take, take-append-le, take_at}

-- the front of what was written through a slice of the whole
pub front_stays : {A : Type 0} (new old : List A) (m n : ℕ) → length new ≡ n → m ≤ n
    → take m (take n (new ++ drop (length new) old)) ≡ take m new
front_stays new old m n e h = take-take m n (new ++ drop (length new) old) h ∙ take-append-le m new _ (subst (λ k. m ≤ k) (sym e) h)

-- the front of what was written through a slice of the back
pub part_stays : {A : Type 0} (old new more rest : List A) (at m n : ℕ) → length old ≡ at → m ≤ length new → at + m ≤ n
    → take (at + m) (take n ((old ++ (new ++ more)) ++ rest)) ≡ old ++ take m new
part_stays old new more rest at m n here short h =
    take-take (at + m) n ((old ++ (new ++ more)) ++ rest) h ∙ ap (take (at + m)) (append_assoc old (new ++ more) rest)
    ∙ ap (λ k. take (k + m) (old ++ ((new ++ more) ++ rest))) (sym here) ∙ take-append-add old ((new ++ more) ++ rest) m
    ∙ ap (λ z. old ++ take m z) (append_assoc new more rest) ∙ ap (λ z. old ++ z) (take-append-le m new (more ++ rest) short)

-- a text that a quotation mark was put behind, and more
pub grows_by_a_mark : (old mid rest : List ℕ) (at : ℕ) → length old ≡ at → mid ≡ old ++ 34 ∷ rest → take (at + 1) mid ≡ old ++ 34 ∷ []
grows_by_a_mark old mid rest at here e = ap (take (at + 1)) (e ∙ sym (append_assoc old (34 ∷ []) rest))
    ∙ take_at (old ++ 34 ∷ []) rest (at + 1) (length-append old (34 ∷ []) ∙ ap (λ k. k + 1) here)
