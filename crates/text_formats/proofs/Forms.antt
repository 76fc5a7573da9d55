-- Texts of a form, from a place on.
use Rattle.std.proofs.Common.{◌≡◌, ◌≢◌, ◌∙◌, ◌∷◌, [], ◌&&◌, ℕ, suc, ◌<◌, ◌≤◌, ◌+◌, Bool, true, false, List}
use Rattle.std.proofs.Common.{length, get_or, drop, ap, sym, refl}
use Rattle.std.proofs.Common.{drop-cons, add-one}
use Rattle.std.proofs.Math.ListN.{drop_of_length-le}
use Rattle.text_formats.specs.Form.{has_form, fits}

module _ (form text : List ℕ) (i : ℕ) where
  opened : i < length form → i < length text → has_form (drop i form) (drop i text)
      ≡ (fits (get_or form i 0) (get_or text i 0) && has_form (drop (suc i) form) (drop (suc i) text))
  opened f t = ap (λ xs. has_form xs (drop i text)) (drop-cons form i 0 f)
      ∙ ap (λ ys. has_form (get_or form i 0 ∷ drop (suc i) form) ys) (drop-cons text i 0 t)

  pub form_turn : i < length form → i < length text → fits (get_or form i 0) (get_or text i 0) ≡ true
      → has_form (drop i form) (drop i text) ≡ has_form (drop (i + 1) form) (drop (i + 1) text)
  form_turn f t e = opened f t ∙ (ap (λ b. b && has_form (drop (suc i) form) (drop (suc i) text)) e
      ∙ sym (ap (λ n. has_form (drop n form) (drop n text)) (add-one i)))

  pub form_off : i < length form → i < length text → fits (get_or form i 0) (get_or text i 0) ≡ false
      → has_form (drop i form) (drop i text) ≡ false
  form_off f t e = opened f t ∙ ap (λ b. b && has_form (drop (suc i) form) (drop (suc i) text)) e

  pub form_end : length form ≤ i → length text ≤ i → has_form (drop i form) (drop i text) ≡ true
  form_end f t = ap (λ xs. has_form xs (drop i text)) (drop_of_length-le form f) ∙ ap (λ ys. has_form [] ys) (drop_of_length-le text t)

-- texts of other lengths have no such form
pub form_length : (form text : List ℕ) → has_form form text ≡ true → length text ≡ length form
form_length [] [] e = refl
form_length [] (c ∷ cs) e = cc
form_length (m ∷ form) [] e = cc
form_length (m ∷ form) (c ∷ cs) e = by (fits m c) (form_length form cs) e
  where
    by : (b : Bool) → (has_form form cs ≡ true → length cs ≡ length form) → (b && has_form form cs) ≡ true
        → suc (length cs) ≡ suc (length form)
    by true more e = ap (λ n. suc n) (more e)
    by false more e = cc

pub form_other : (form text : List ℕ) → length form ≢ length text → false ≡ has_form form text
form_other form text n = sym (by (has_form form text) refl)
  where
    by : (b : Bool) → has_form form text ≡ b → b ≡ false
    by true e = absurd (n (sym (form_length form text e)))
    by false e = refl
