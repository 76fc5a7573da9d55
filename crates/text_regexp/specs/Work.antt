-- How much work matching may take.
use Rattle.std.specs.Prelude.{◌≡◌, ℕ, ◌-◌, ◌≤◌, ⊤, Bool, Option, IsSome, IfNone}
use Rattle.text_regexp.specs.declared.work.Work.{Work}
use Rattle.text_regexp.specs.declared.work.Work.TheVariants.{Unlimited, AtMost}

-- what is left after that many units
abbrev pub less : Work → ℕ → Work
less Unlimited n = Unlimited
less (AtMost left) n = AtMost (left - n)

-- as many units are left
abbrev pub HasLeft : Work → ℕ → Type 0
HasLeft Unlimited n = ⊤
HasLeft (AtMost left) n = n ≤ left

-- unlimited work leads to an answer; without one no work is left
abbrev pub Spends : Work → Option Bool → Work → Type 0
Spends old answer new =
    (old ≡ Unlimited → (new ≡ Unlimited) × IsSome answer) × IfNone answer (new ≡ AtMost 0)
