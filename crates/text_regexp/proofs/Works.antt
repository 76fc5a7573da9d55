-- Work that matching takes.
use Rattle.std.proofs.Common.{Option, None, Some, ◌≡◌, ◌↔◌, ℕ, Bool, false, IsSome, is_some}
use Rattle.std.proofs.Common.{refl, sym, ap, subst, arith, true≢false, ◌∙◌}
use Rattle.text_regexp.specs.Work.{less, HasLeft, Spends}
use Rattle.text_regexp.specs.declared.work.Work.{Work}
use Rattle.text_regexp.specs.declared.work.Work.TheVariants.{Unlimited, AtMost}

-- where work was unlimited it is
abbrev pub Stays : Work → Work → Type 0
Stays old new = old ≡ Unlimited → new ≡ Unlimited

pub stays_less : (old work new : Work) (n : ℕ) → Stays old work → new ≡ less work n → Stays old new
stays_less old work new n stays is h = is ∙ ap (λ w. less w n) (stays h)

none_left : (w : Work) (n : ℕ) → (HasLeft w n → ⊥) → less w n ≡ AtMost 0
none_left Unlimited n h = absurd (h tt)
none_left (AtMost k) n h = ap AtMost (omega (arith, h))

has_unlimited : (w : Work) (n : ℕ) → w ≡ Unlimited → HasLeft w n
has_unlimited w n h = subst (λ x. HasLeft x n) (sym h) tt

-- without an answer the work was not enough
pub spends_none : (A : Type 0) (old work new : Work) (n : ℕ) (r : Option A) → Stays old work → (IsSome r ↔ HasLeft work n)
    → is_some r ≡ false → new ≡ less work n → Spends old None new
spends_none A old work new n r stays enough none is = (
  λ h. absurd (true≢false (sym (enough.1 (has_unlimited work n (stays h))) ∙ none)),
  is ∙ none_left work n (λ has. true≢false (sym (enough.1 has) ∙ none)),
)

-- an answer spends what was taken
pub spends_some : (old new : Work) (b : Bool) → Stays old new → Spends old (Some b) new
spends_some old new b stays = (λ h. (stays h, refl), tt)
