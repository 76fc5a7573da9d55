-- What a canonical decimal is, in parts.
use Rattle.std.proofs.Common.{◌≡◌, ◌≢◌, ℕ, ◌-◌, Bool, false, List, [], ◌∷◌, length, get_or, ℤ, pos, refl, sym, ◌∙◌, arith, IsTrue, not}
use Rattle.std.proofs.Common.{◌==◌}
use Rattle.std.specs.Int.{Width}
use Rattle.std.specs.Char.{is_ascii_digit}
use Rattle.std.specs.Ordering.{int_eq}
use Rattle.std.specs.Str.{all_ascii_digits}
use Rattle.std.proofs.lemmas.Bool.{and_parts, and_from, not-true}
use Rattle.std.proofs.lemmas.Bool.Decides.{nat_tests, Decides-int_eq}
use Rattle.tinyjson_number.specs.Numeral.{AreDigits, power_fits}
use Rattle.tinyjson_number.proofs.Strips.{last_cons}
use Rattle.tinyjson_number.specs.Canonical.{is_canonical_at, starts_without_zero, ends_nonzero, ends_without_zero}

-- digits that neither begin nor end with 0, where there are any
pub record HasForm (width : Width) (ds : List ℕ) (p : ℤ) : Type 0 where
  pub digits : AreDigits ds
  pub first : get_or ds 0 0 ≢ 48
  pub last : get_or ds (length ds - 1) 0 ≢ 48
  pub fits : IsTrue (power_fits width p)

digits_from : (ds : List ℕ) → IsTrue (all_ascii_digits ds) → AreDigits ds
digits_from [] h = tt
digits_from (c ∷ cs) h = let k = and_parts (is_ascii_digit c) (all_ascii_digits cs) h in (k.0, digits_from cs k.1)

from_digits : (ds : List ℕ) → AreDigits ds → IsTrue (all_ascii_digits ds)
from_digits [] h = refl
from_digits (c ∷ cs) h = and_from (is_ascii_digit c) (all_ascii_digits cs) h.0 (from_digits cs h.1)

last_from : (c : ℕ) (cs : List ℕ) → IsTrue (ends_nonzero c cs) → get_or (c ∷ cs) (length (c ∷ cs) - 1) 0 ≢ 48
last_from c [] h = λ e. grind (arith, nat_tests)
last_from c (d ∷ ds) h = λ e. last_from d ds h (sym (last_cons c d ds) ∙ e)

from_last : (c : ℕ) (cs : List ℕ) → get_or (c ∷ cs) (length (c ∷ cs) - 1) 0 ≢ 48 → IsTrue (ends_nonzero c cs)
from_last c [] h = grind (arith, nat_tests)
from_last c (d ∷ ds) h = from_last d ds (λ e. h (last_cons c d ds ∙ e))

first_from : (c : ℕ) → IsTrue (not (c == 48)) → c ≢ 48
first_from c h = λ e. grind (arith, nat_tests)

from_first : (c : ℕ) → c ≢ 48 → IsTrue (not (c == 48))
from_first c h = grind (arith, nat_tests)

pub form : (width : Width) (g : Bool) (c : ℕ) (cs : List ℕ) (p : ℤ) → IsTrue (is_canonical_at width g (c ∷ cs) p) → HasForm width (c ∷ cs) p
form width g c cs p h = grind (arith, digits_from, last_from)

pub formed : (width : Width) (g : Bool) (c : ℕ) (cs : List ℕ) (p : ℤ) → HasForm width (c ∷ cs) p
    → IsTrue (is_canonical_at width g (c ∷ cs) p)
formed width g c cs p h = and_from (power_fits width p) _ h.fits (and_from (all_ascii_digits (c ∷ cs)) _ (from_digits (c ∷ cs) h.digits)
    (and_from (starts_without_zero (c ∷ cs)) (ends_without_zero (c ∷ cs)) (from_first c h.first) (from_last c cs h.last)))

pub zero_form : (width : Width) (g : Bool) (p : ℤ) → IsTrue (is_canonical_at width g [] p) → (g ≡ false) × (p ≡ pos 0)
zero_form width g p h = let k = and_parts (not g) (int_eq p (pos 0)) h in (not-true g k.0, (Decides-int_eq p (pos 0)).0 k.1)

pub digits_of_form : (width : Width) (g : Bool) (ds : List ℕ) (p : ℤ) → IsTrue (is_canonical_at width g ds p) → AreDigits ds
digits_of_form width g [] p h = tt
digits_of_form width g (c ∷ cs) p h = (form width g c cs p h).digits
