-- Where texts are cut.
use Rattle.std.proofs.Common.{◌≡◌, ◌∷◌, [], ℕ, suc, ◌<◌, ◌≤◌, ◌+◌, Bool, true, false, List, cond, length, get_or, take, drop}
use Rattle.std.proofs.Common.{refl, sym, ap, ◌∙◌, arith, subst, add-one, one-add, drop-cons, IsCharBoundary, ◌⊎◌, inl, inr, eq-or-lt_of_le}
use Rattle.std.proofs.lemmas.Bool.Decides.{nat_tests}
use Rattle.std.proofs.lemmas.Str.{IsCharBoundary-before_ascii, IsCharBoundary-end}
use Rattle.text_uri.specs.Letters.{before, from, is_slash}
use Rattle.text_uri.specs.Dots.{first_segment, after_first_segment}
use Rattle.text_uri.specs.Splitting.{ends}
use Rattle.text_uri.specs.declared.cutting.End.{End}
use Rattle.text_uri.specs.declared.cutting.End.TheVariants as at

module _ (p : ℕ → Bool) where
  width : List ℕ → ℕ
  width xs = length (before p xs)

  pub take_before : (xs : List ℕ) → take (length (before p xs)) xs ≡ before p xs
  take_before [] = refl
  take_before (x ∷ xs) = by (p x) (take_before xs)
    where
      by : (b : Bool) → take (length (before p xs)) xs ≡ before p xs
          → take (length (cond b [] (x ∷ before p xs))) (x ∷ xs) ≡ cond b [] (x ∷ before p xs)
      by true more = refl
      by false more = ap (λ ys. x ∷ ys) more

  pub drop_before : (xs : List ℕ) → drop (length (before p xs)) xs ≡ from p xs
  drop_before [] = refl
  drop_before (x ∷ xs) = by (p x) (drop_before xs)
    where
      by : (b : Bool) → drop (length (before p xs)) xs ≡ from p xs
          → drop (length (cond b [] (x ∷ before p xs))) (x ∷ xs) ≡ cond b (x ∷ xs) (from p xs)
      by true more = refl
      by false more = more

  pub before_at_most : (xs : List ℕ) → length (before p xs) ≤ length xs
  before_at_most [] = omega arith
  before_at_most (x ∷ xs) = by (p x) (before_at_most xs)
    where
      by : (b : Bool) → length (before p xs) ≤ length xs → length (cond b [] (x ∷ before p xs)) ≤ suc (length xs)
      by true more = omega arith
      by false more = omega arith

  pub from_at_most : (xs : List ℕ) → length (from p xs) ≤ length xs
  from_at_most [] = omega arith
  from_at_most (x ∷ xs) = by (p x) (from_at_most xs)
    where
      by : (b : Bool) → length (from p xs) ≤ length xs → length (cond b (x ∷ xs) (from p xs)) ≤ suc (length xs)
      by true more = omega arith
      by false more = omega arith

  pub here_after : (xs : List ℕ) → length (before p xs) < length xs → p (get_or xs (length (before p xs)) 0) ≡ true
  here_after [] h = absurd (omega (arith, h))
  here_after (x ∷ xs) h = by (p x) refl (here_after xs) h
    where
      by : (b : Bool) → p x ≡ b → (length (before p xs) < length xs → p (get_or xs (length (before p xs)) 0) ≡ true)
          → length (cond b [] (x ∷ before p xs)) < suc (length xs)
          → p (get_or (x ∷ xs) (length (cond b [] (x ∷ before p xs))) 0) ≡ true
      by true e more h = e
      by false e more h = more (omega arith)

  -- ---- the loop

  abbrev pub IsWide : List ℕ → ℕ → Type 0
  IsWide xs i = length (before p xs) ≡ i + length (before p (drop i xs))

  pub wide_turn : (xs : List ℕ) (i : ℕ) → i < length xs → p (get_or xs i 0) ≡ false → IsWide xs i → IsWide xs (i + 1)
  wide_turn xs i l e h =
      let turned : length (before p (drop i xs)) ≡ suc (length (before p (drop (i + 1) xs)))
      = ap (λ ys. length (before p ys)) (drop-cons xs i 0 l ∙ ap (λ n. get_or xs i 0 ∷ drop n xs) (sym (add-one i)))
      ∙ ap (λ b. length (cond b [] (get_or xs i 0 ∷ before p (drop (i + 1) xs)))) e in
      omega (arith, h, turned)

  pub wide_here : (xs : List ℕ) (i : ℕ) → i < length xs → p (get_or xs i 0) ≡ true → IsWide xs i → i ≡ length (before p xs)
  wide_here xs i l e h =
      let none : length (before p (drop i xs)) ≡ 0 = ap (λ ys. length (before p ys)) (drop-cons xs i 0 l)
      ∙ ap (λ b. length (cond b [] (get_or xs i 0 ∷ before p (drop (suc i) xs)))) e in
      omega (arith, h, none)

  pub wide_end : (xs : List ℕ) (i : ℕ) → length xs ≤ i → IsWide xs i → length xs ≡ length (before p xs)
  wide_end xs i l h = omega (arith, h, before_at_most xs)

-- ---- a text may be cut there

pub ends_ascii : (e : End) (c : ℕ) → ends e c ≡ true → c < 128
ends_ascii at.Scheme c h = grind (arith, nat_tests)
ends_ascii at.Authority c h = grind (arith, nat_tests)
ends_ascii at.Path c h = grind (arith, nat_tests)
ends_ascii at.Query c h = grind (arith, nat_tests)
ends_ascii at.Segment c h = grind (arith, nat_tests)

-- a test that only ASCII bytes pass
abbrev pub IsAsciiTest : (ℕ → Bool) → Type 0
IsAsciiTest p = (c : ℕ) → p c ≡ true → c < 128

pub may_be_cut : (p : ℕ → Bool) (xs : List ℕ) → IsAsciiTest p → IsCharBoundary xs (length (before p xs))
may_be_cut p xs ascii = by (eq-or-lt_of_le (before_at_most p xs))
  where
    by : (length (before p xs) ≡ length xs) ⊎ (length (before p xs) < length xs) → IsCharBoundary xs (length (before p xs))
    by (inl e) = subst (IsCharBoundary xs) (sym e) (IsCharBoundary-end xs)
    by (inr l) = IsCharBoundary-before_ascii xs (length (before p xs)) l (ascii _ (here_after p xs l))

-- ---- the first segment of a path, by what follows its first byte

module _ (input more : List ℕ) (x n : ℕ) (e : input ≡ x ∷ more) (w : n ≡ length (before is_slash more)) where
  pub segment_front : take (1 + n) input ≡ first_segment input
  segment_front = ap (λ m. take m input) (one-add n) ∙ (ap (λ (ys : List ℕ). take (suc n) ys) e
      ∙ (ap (λ ys. x ∷ ys) (ap (λ m. take m more) w ∙ take_before is_slash more) ∙ ap first_segment (sym e)))

  pub segment_rest : drop (1 + n) input ≡ after_first_segment input
  segment_rest = ap (λ m. drop m input) (one-add n) ∙ (ap (λ (ys : List ℕ). drop (suc n) ys) e
      ∙ ((ap (λ m. drop m more) w ∙ drop_before is_slash more) ∙ ap after_first_segment (sym e)))

  pub segment_fits : 1 + n ≤ length input
  segment_fits = omega (arith, w, before_at_most is_slash more, ap length e)

  pub segment_may_be_cut : IsCharBoundary input (1 + n)
  segment_may_be_cut = by (eq-or-lt_of_le segment_fits)
    where
      by : (1 + n ≡ length input) ⊎ (1 + n < length input) → IsCharBoundary input (1 + n)
      by (inl h) = subst (IsCharBoundary input) (sym h) (IsCharBoundary-end input)
      by (inr h) =
          let short : length (before is_slash more) < length more = omega (arith, w, ap length e) in
          let found : get_or input (1 + n) 0 ≡ get_or more (length (before is_slash more)) 0
          = ap (λ m. get_or input m 0) (one-add n) ∙ (ap (λ (ys : List ℕ). get_or ys (suc n) 0) e ∙ ap (λ m. get_or more m 0) w) in
          let ascii : get_or more (length (before is_slash more)) 0 < 128 = ends_ascii at.Segment _ (here_after is_slash more short) in
          IsCharBoundary-before_ascii input (1 + n) h (omega (arith, found, ascii))
