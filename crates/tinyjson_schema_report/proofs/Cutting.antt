-- Texts that are cut.
use Rattle.std.proofs.Common.{◌≡◌, ℕ, zero, suc, List, [], ◌∷◌, ◌++◌, codes, refl, sym, ap, ◌∙◌, append_assoc, append-nil}
use Rattle.std.specs.Prelude.{encode_utf8}
use Rattle.tinyjson_schema_report.specs.Brief.{cut}

pub one_more : (whole shown taken : List ℕ) (c n m : ℕ) (cs rest : List ℕ) → n ≡ suc m → rest ≡ c ∷ cs
    → taken ≡ shown ++ encode_utf8 c → shown ++ cut n rest ≡ whole → taken ++ cut m cs ≡ whole
one_more whole shown taken c n m cs rest e r t h =
    ap (λ x. x ++ cut m cs) t ∙ (append_assoc shown (encode_utf8 c) (cut m cs)
    ∙ (ap (λ k. shown ++ cut k (c ∷ cs)) (sym e) ∙ (ap (λ x. shown ++ cut n x) (sym r) ∙ h)))

pub no_more : (whole shown all : List ℕ) (c n : ℕ) (cs rest : List ℕ) → n ≡ zero → rest ≡ c ∷ cs
    → all ≡ shown ++ codes "..." → shown ++ cut n rest ≡ whole → all ≡ whole
no_more whole shown all c n cs rest e r t h =
    t ∙ (ap (λ k. shown ++ cut k (c ∷ cs)) (sym e) ∙ (ap (λ x. shown ++ cut n x) (sym r) ∙ h))

nothing : (n : ℕ) → cut n [] ≡ []
nothing zero = refl
nothing (suc n) = refl

pub all_shown : (whole shown : List ℕ) (n : ℕ) (rest : List ℕ) → rest ≡ [] → shown ++ cut n rest ≡ whole → shown ≡ whole
all_shown whole shown n rest r h =
    sym (append-nil shown) ∙ (ap (λ x. shown ++ x) (sym (nothing n)) ∙ (ap (λ x. shown ++ cut n x) (sym r) ∙ h))
