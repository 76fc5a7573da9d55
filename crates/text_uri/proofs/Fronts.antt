-- What follows the front of a text.
use Rattle.std.proofs.Common.{◌≡◌, ◌≢◌, ◌∷◌, [], ◌++◌, ℕ, ◌+◌, ◌==◌, Bool, true, false, List, Option, Some, None, cond, length, drop}
use Rattle.std.proofs.Common.{refl, sym, ap, ◌∙◌, MatchOption, Bor, eqb-true, eq-eqb}
use Rattle.std.specs.Str.Pattern.{FindsTextPrefix}
use Rattle.text_uri.specs.Letters.{after}
use Rattle.text_uri.specs.Splitting.{now}

same_byte : (c : ℕ) → (c == c) ≡ true
same_byte c = eq-eqb c c refl

pub after_front : (front rest : List ℕ) → after front (front ++ rest) ≡ Some rest
after_front [] rest = refl
after_front (c ∷ cs) rest = ap (λ b. cond b (after cs (cs ++ rest)) None) (same_byte c) ∙ after_front cs rest

pub after_splits : (front text rest : List ℕ) → after front text ≡ Some rest → text ≡ front ++ rest
after_splits [] text rest e = by e
  where
    by : Some text ≡ Some rest → text ≡ rest
    by e = cc
after_splits (d ∷ ds) [] rest e = cc
after_splits (d ∷ ds) (c ∷ cs) rest e = by (c == d) refl (after_splits ds cs rest) e
  where
    by : (b : Bool) → (c == d) ≡ b → (after ds cs ≡ Some rest → cs ≡ ds ++ rest) → cond b (after ds cs) None ≡ Some rest
        → c ∷ cs ≡ d ∷ (ds ++ rest)
    by true same more e = ap (λ x. x ∷ cs) (eqb-true c d same) ∙ ap (λ xs. d ∷ xs) (more e)
    by false same more e = cc

pub stripped : (front text : List ℕ) (r : Option (Bor (List ℕ)))
    → MatchOption r ((rest : List ℕ) → drop 0 text ≢ front ++ rest)
    (λ x. (n : ℕ) × FindsTextPrefix front text (Some n) × (x.now ≡ drop n text) × (length x.now + n ≡ length text))
    → now r ≡ after front text
stripped front text None h = by (after front text) refl
  where
    by : (o : Option (List ℕ)) → after front text ≡ o → None ≡ o
    by None e = refl
    by (Some rest) e = absurd (h rest (after_splits front text rest e))
stripped front text (Some x) h = ap Some h.2 ∙ sym (ap (after front) h.1.1 ∙ after_front front (drop h.0 text))
