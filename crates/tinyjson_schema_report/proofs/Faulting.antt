-- Why a text is no pattern: where it is refused, and the text there.
use Rattle.std.proofs.Common.{◌≡◌, ℕ, zero, suc, List, [], ◌∷◌, ◌++◌, None, Result, Ok, Err, refl, sym, ap, ◌∙◌, append_assoc, append-nil}
use Rattle.std.specs.Prelude.{encode_utf8}
use Rattle.text_iregexp.specs.PatternReading.{ReadsPattern}
use Rattle.text_iregexp.specs.declared.pattern.SchemaPattern.{SchemaPattern}
use Rattle.text_iregexp.specs.declared.pattern_error.SchemaPatternError.{SchemaPatternError}
use Rattle.tinyjson_schema_report.specs.Faults.{IsFault, after}

pub not_refused : (cs : List ℕ) (r : Result SchemaPattern SchemaPatternError) → ((e : SchemaPatternError) → r ≡ Err e → ⊥)
    → ReadsPattern cs r → IsFault cs None
not_refused cs (Ok x) n h = (x, h)
not_refused cs (Err e) n h = absurd (n e refl)

-- ---- the text behind the first characters

pub one_passed : (whole rest : List ℕ) (c n m : ℕ) (cs ds : List ℕ) → n ≡ suc m → ds ≡ c ∷ cs → rest ++ after n ds ≡ whole
    → rest ++ after m cs ≡ whole
one_passed whole rest c n m cs ds e r h = ap (λ k. rest ++ after k (c ∷ cs)) (sym e) ∙ (ap (λ x. rest ++ after n x) (sym r) ∙ h)

pub one_kept : (whole rest new : List ℕ) (c n : ℕ) (cs ds : List ℕ) → n ≡ zero → ds ≡ c ∷ cs → new ≡ rest ++ encode_utf8 c
    → rest ++ after n ds ≡ whole → new ++ after n cs ≡ whole
one_kept whole rest new c n cs ds e r t h =
    ap (λ x. x ++ after n cs) t ∙ (append_assoc rest (encode_utf8 c) (after n cs)
    ∙ (ap (λ k. rest ++ (encode_utf8 c ++ after k cs)) e ∙ (ap (λ k. rest ++ after k (c ∷ cs)) (sym e)
    ∙ (ap (λ x. rest ++ after n x) (sym r) ∙ h))))

nothing : (n : ℕ) → after n [] ≡ []
nothing zero = refl
nothing (suc n) = refl

pub all_passed : (whole rest : List ℕ) (n : ℕ) (ds : List ℕ) → ds ≡ [] → rest ++ after n ds ≡ whole → rest ≡ whole
all_passed whole rest n ds r h = sym (append-nil rest) ∙ (ap (λ x. rest ++ x) (sym (nothing n)) ∙ (ap (λ x. rest ++ after n x) (sym r) ∙ h))
