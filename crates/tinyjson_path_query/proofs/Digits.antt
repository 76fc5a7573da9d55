-- Integers that are too great.
use Rattle.std.proofs.Common.{◌≡◌, ℕ, ◌<◌, ◌≤◌, ◌+◌, ◌-◌, ◌*◌, Bool, true, false, nat_le, cond, List, [], ◌∷◌, None}
use Rattle.std.proofs.Common.{refl, sym, ap, ◌∙◌, arith}
use Rattle.std.proofs.lemmas.Bool.{cond-true, cond-false, lt-leb}
use Rattle.tinyjson_path_query.specs.Grammar.{is_digit, is_digit1, digits_on, greatest_exact}
use Rattle.tinyjson_path_query.specs.Fronts.{exact_front, magnitude_front}

digits_grow : (xs : List ℕ) (n : ℕ) → n ≤ (digits_on n xs).0
digits_grow [] n = omega arith
digits_grow (c ∷ cs) n = by (is_digit c) (digits_grow cs (10 * n + (c - 48)))
  where
    by : (b : Bool) → 10 * n + (c - 48) ≤ (digits_on (10 * n + (c - 48)) cs).0
        → n ≤ (cond {A = ℕ × List ℕ} b (digits_on (10 * n + (c - 48)) cs) (n, c ∷ cs)).0
    by true h = omega arith
    by false h = omega arith

too_great : (cs rest : List ℕ) (d value : ℕ) → digits_on d cs ≡ digits_on value rest → greatest_exact < value
    → exact_front (digits_on d cs) ≡ None
too_great cs rest d value e l =
    let g = digits_grow rest value in
    let same : (digits_on d cs).0 ≡ (digits_on value rest).0 = ap (λ p. p.0) e in
    cond-false (nat_le (digits_on d cs).0 greatest_exact) _ _ (lt-leb (digits_on d cs).0 greatest_exact (omega arith))

pub magnitude_over : (xs cs rest after : List ℕ) (c d value next : ℕ) → xs ≡ c ∷ cs → d ≡ c - 48 → digits_on d cs ≡ digits_on value rest
    → rest ≡ next ∷ after → is_digit next ≡ true → greatest_exact < 10 * value + (next - 48) → magnitude_front xs ≡ None
magnitude_over xs cs rest after c d value next e f g h k l = ap magnitude_front e ∙ by (is_digit1 c)
  where
    step : digits_on (c - 48) cs ≡ digits_on (10 * value + (next - 48)) after
    step = ap (λ x. digits_on x cs) (sym f) ∙ (g ∙ (ap (digits_on value) h ∙ cond-true (is_digit next) _ _ k))

    by : (b : Bool) → cond b (exact_front (digits_on (c - 48) cs)) None ≡ None
    by true = too_great cs after (c - 48) (10 * value + (next - 48)) step l
    by false = refl
