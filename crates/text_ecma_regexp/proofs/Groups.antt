-- Open groups.
use Rattle.std.proofs.Common.{◌≡◌, ◌≢◌, ◌∙◌, ℕ, zero, suc, ◌+◌, ◌-◌, ◌<◌, ◌≤◌, Bool, false, List, ◌∷◌, length}
use Rattle.std.proofs.Common.{get_or, set, refl, ap, arith}
use Rattle.std.proofs.Common.{get_or-set_other, get_or-set_same, add-one}
use Rattle.text_ecma_regexp.specs.Scan.{stack}

-- a kind beyond those of the open groups is none of them
pub stack_set : (kinds : List Bool) (n i : ℕ) (kind : Bool) → n ≤ i → stack (set kinds i kind) n ≡ stack kinds n
stack_set kinds zero i kind le = refl
stack_set kinds (suc n) i kind le =
    ap (λ k. k ∷ stack (set kinds i kind) n) (get_or-set_other kinds i n kind false (omega arith))
    ∙ ap (λ ks. get_or kinds n false ∷ ks) (stack_set kinds n i kind (omega arith))

pub stack_more : (kinds : List Bool) (n : ℕ) (kind : Bool) → n < length kinds → stack (set kinds n kind) (n + 1) ≡ kind ∷ stack kinds n
stack_more kinds n kind lt = ap (λ m. stack (set kinds n kind) m) (add-one n)
    ∙ (ap (λ k. k ∷ stack (set kinds n kind) n) (get_or-set_same kinds n kind false lt)
    ∙ ap (λ ks. kind ∷ ks) (stack_set kinds n n kind (omega arith)))

pub stack_length : (kinds : List Bool) (n : ℕ) → length (stack kinds n) ≡ n
stack_length kinds zero = refl
stack_length kinds (suc n) = ap (λ m. suc m) (stack_length kinds n)

pub stack_opened : (kinds : List Bool) (n : ℕ) → n ≢ 0 → stack kinds n ≡ get_or kinds (n - 1) false ∷ stack kinds (n - 1)
stack_opened kinds n some = let e : n ≡ suc (n - 1) = omega arith in ap (λ m. stack kinds m) e
