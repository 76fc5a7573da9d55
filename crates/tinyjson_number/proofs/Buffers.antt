-- Texts that are put by vectors.
use Rattle.std.proofs.Common.{◌≡◌, ℕ, ℤ, ◌+◌, ◌-◌, ◌<◌, ◌≤◌, ◌==◌, Bool, false, Option, None, Some, IfSome, List, [], ◌∷◌, ◌++◌, length}
use Rattle.std.proofs.Common.{take, drop, replicate, pos, refl, ◌∙◌, ap, append_assoc, arith}
use Rattle.std.specs.Prelude.{◌+ℤ◌}
use Rattle.std.proofs.Math.ListN.{set}
use Rattle.std.proofs.lemmas.Bool.Decides.{nat_tests}
use Rattle.std.proofs.lemmas.List.{drop-take, take-take, take-replicate}
use Rattle.tinyjson_number.specs.Decimal.{Decimal}
use Rattle.tinyjson_number.specs.Numeral.{minus_text}
use Rattle.tinyjson_number.specs.Text.{decimal_text, magnitude_text}

-- what each call put, after what stood there
abbrev Put : ℕ → ℕ → List ℕ → List ℕ → List ℕ → Type 0
Put size at old new bytes = (n : ℕ) → n ≤ size → take (at + n) new ≡ take at old ++ take n bytes

module _ (at count : ℕ) (old one two bytes : List ℕ) where
  pub integer_put : (zeros : ℕ) → count ≤ 16 → zeros ≤ 8 → Put 16 at old one bytes → Put 8 (at + count) one two (replicate 8 48)
      → take (at + count + zeros) two ≡ take at old ++ (take count bytes ++ replicate zeros 48)
  integer_put zeros c z p q = search (q, p, append_assoc, take-replicate)

  pub fraction_put : (zeros : ℕ) → count ≤ 16 → zeros ≤ 6 → Put 8 at old one (48 ∷ 46 ∷ replicate 6 48)
      → Put 16 (at + 2 + zeros) one two bytes
      → take (at + 2 + zeros + count) two ≡ take at old ++ (48 ∷ 46 ∷ (replicate zeros 48 ++ take count bytes))
  fraction_put zeros c z p q = let front : take (at + 2 + zeros) one ≡ take at old ++ (48 ∷ 46 ∷ replicate zeros 48) = grind arith in
      q count c ∙ ap (λ x. x ++ take count bytes) front ∙ append_assoc (take at old) (48 ∷ 46 ∷ replicate zeros 48) (take count bytes)

  pub mixed_put : (three run : List ℕ) (point : ℕ) → count ≤ 16 → point ≤ 8 → point ≤ count → run ≡ drop point bytes
      → Put 8 at old one bytes → Put 1 (at + point) one two (46 ∷ []) → Put 16 (at + point + 1) two three run
      → take (at + count + 1) three ≡ take at old ++ (take point (take count bytes) ++ (46 ∷ drop point (take count bytes)))
  mixed_put three run point c h l e p q r = let rest = take (count - point) (drop point bytes) in
      let front : take (at + point + 1) two ≡ take at old ++ (take point bytes ++ 46 ∷ []) =
      q 1 (omega arith) ∙ ap (λ x. x ++ 46 ∷ []) (p point h) ∙ append_assoc (take at old) (take point bytes) (46 ∷ []) in
      let split : point + (count - point) ≡ count = omega arith in
      let back : drop point (take count bytes) ≡ rest = grind (arith, drop-take) in
      grind (arith, append_assoc, take-take)

-- ---- the text of a decimal

pub zero_put : (buffer : List ℕ) (d : Decimal) → 0 < length buffer → d.digits ≡ [] → (1 ≤ length (set buffer 0 48))
    × (take 1 (set buffer 0 48) ≡ decimal_text d)
unfolding decimal_text
zero_put [] d h e = absurd (omega arith)
zero_put (x ∷ xs) d h e = (omega arith, rw e refl)

pub digits_text : (d : Decimal) → 0 < length d.digits → decimal_text d ≡ minus_text d.negative ++ magnitude_text d.digits d.power
    (pos (length d.digits) +ℤ d.power)
unfolding decimal_text
digits_text d h = let some : (length d.digits == 0) ≡ false = grind (arith, nat_tests) in rw some refl

module _ (one two : List ℕ) (at : ℕ) (digits : List ℕ) (negative : Bool) (power : ℤ) (d : Decimal) (e : digits ≡ d.digits)
    (s : negative ≡ d.negative) (p : power ≡ d.power) where
  pub decimal_put : (o : Option ℕ) → 0 < length digits → take at one ≡ minus_text negative → 32 ≤ length two
      → IfSome o (λ n. (n ≤ 32) × (take n two ≡ take at one ++ magnitude_text digits power (pos (length digits) +ℤ power)))
      → IfSome o (λ n. (n ≤ length two) × (take n two ≡ decimal_text d))
  decimal_put None h m room x = tt
  decimal_put (Some n) h m room x = grind (arith, digits_text)
