-- Letters of patterns.
use Rattle.std.proofs.Common.{◌≡◌, ℕ, ◌<◌, ◌≤◌, Bool, true, false, ◌&&◌, ◌||◌, not, nat_le, cond, Some, None, refl, ap, ◌∙◌, arith}
use Rattle.std.proofs.lemmas.Bool.{leb-true, le-leb}
use Rattle.std.proofs.Common.{List, [], ◌∷◌, ◌-◌, length, get_or, take, drop, ap₂}
use Rattle.std.proofs.lemmas.List.{take_rest}
use Rattle.text_iregexp.specs.PatternFronts.{byte_front, literal_front}
use Rattle.text_iregexp.specs.Patterns.{scalar, byte_of}

low_scalar : (n : ℕ) → n < 256 → scalar n ≡ Some n
low_scalar n h = by (nat_le 55296 n) refl
  where
    by : (b : Bool) → nat_le 55296 n ≡ b → cond ((b && nat_le n 57343) || not (nat_le n 1114111)) None (Some n) ≡ Some n
    by true e = let l : 55296 ≤ n = leb-true 55296 n e in absurd (omega arith)
    by false e = ap (λ b. cond (not b) None (Some n)) (le-leb n 1114111 (omega arith))

pub byte_read : (xs : List ℕ) (a b n : ℕ) → 2 ≤ length xs → a ≡ get_or xs 0 a → b ≡ get_or xs 1 b → Some n ≡ byte_of a b → n < 256
    → literal_front (take (length xs - 2) (drop 2 xs)) (scalar n) ≡ byte_front xs
byte_read [] a b n h e f g k = absurd (omega arith)
byte_read (x ∷ []) a b n h e f g k = absurd (omega arith)
byte_read (x ∷ y ∷ cs) a b n h e f g k =
    ap (λ us. literal_front us (scalar n)) (take_rest (x ∷ y ∷ cs) 2)
    ∙ ap (literal_front cs) (low_scalar n k ∙ (g ∙ ap₂ byte_of e f))
