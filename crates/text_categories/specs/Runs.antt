-- Tables of runs of code points; for private contracts and for `Categories`.
use Rattle.std.specs.Prelude.{◌≡◌, ℕ, ◌/◌, ◌%◌, Bool, true, ◌&&◌, ◌==◌, nat_lt, cond, List, [], ◌∷◌}

-- the number of the first run that ends after the code point, or 27 after the last run; a run is its end
-- times 32 plus its number
unfoldable pub run_category : List ℕ → ℕ → ℕ
run_category [] c = 27
run_category (run ∷ runs) c = cond (nat_lt c (run / 32)) (run % 32) (run_category runs c)

-- each run ends after the one before, the first after n, and the last at the end of Unicode
unfoldable pub ends_rise : ℕ → List ℕ → Bool
ends_rise n [] = n == 0x11_0000
ends_rise n (run ∷ runs) = nat_lt n (run / 32) && ends_rise (run / 32) runs

-- the runs cover the code points, each once
abbrev pub IsPartition : List ℕ → Type 0
IsPartition runs = ends_rise 0 runs ≡ true
