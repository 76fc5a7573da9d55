-- A run of bytes that pass a test, seen a vector at a time through the mask of those that fail it.
use Rattle.std.proofs.Common.{◌≡◌, ℕ, zero, suc, ◌+◌, ◌*◌, ◌%◌, ◌^◌, ◌<◌, ◌≤◌, ◌&&◌, ltb, Bool, true, false, not, cond, eqb, leb, T, List}
use Rattle.std.proofs.Common.{[], ◌∷◌, map, length, drop, replicate, refl, sym, ap, ap₂, ◌∙◌, subst, ◌⊎◌, inl, inr, arith, w8, Fits}
use Rattle.std.proofs.Common.{not-suc-le-zero}
use Rattle.std.proofs.lemmas.Simd.{chunk-drop, length-chunk, leading_from_mask_l, trailing_mask_l, mask_l-mod, zip2_splat_left, map-map}
use Rattle.std.proofs.lemmas.List.{length-drop, length-map}
use Rattle.std.proofs.lemmas.List.Folds.{prefix_len-append}
use Rattle.std.proofs.lemmas.List.Sums.{prefix_len-le-length}
use Rattle.std.proofs.lemmas.Bool.{cases_order, eq-eqb, ne_eqb}
use Rattle.std.specs.List.{prefix_len}
use lib.Bits.{bit_and, bit_or}
use lib.Lanes.{chunk, zip2, mask_l, top, Each1}
use lib.Count.{count_trailing_zeros}

-- ---- a fact of each byte, by computation

abbrev pub same : Bool → Bool → Bool
same a b = cond a b (not b)

same_is : (a b : Bool) → T (same a b) → a ≡ b
same_is true true h = refl
same_is false false h = refl
same_is true false h = absurd h
same_is false true h = absurd h

abbrev pub upto : (ℕ → Bool) → ℕ → Bool
upto p zero = true
upto p (suc n) = p n && upto p n

both : (a b : Bool) → T (a && b) → T a × T b
both true b h = (tt, h)
both false b h = absurd h

upto_sound : (p : ℕ → Bool) (n : ℕ) → T (upto p n) → (i : ℕ) → i < n → T (p i)
upto_sound p zero h i lt = absurd (not-suc-le-zero lt)
upto_sound p (suc n) h i lt = go (upto_sound p n (both (p n) (upto p n) h).1 i) (cases_order i n)
  where
    go : (i < n → T (p i)) → (i ≡ n) ⊎ ((i < n) ⊎ (n < i)) → T (p i)
    go below (inl e) = subst (λ x. T (p x)) (sym e) (both (p n) (upto p n) h).0
    go below (inr (inl l)) = below l
    go below (inr (inr g)) = let no : ⊥ = omega arith in absurd no

-- ---- lanes

abbrev pub hit : ℕ → ℕ → ℕ
hit a b = cond (eqb a b) 255 0

abbrev pub below : ℕ → ℕ → ℕ
below a b = cond (ltb a b) 255 0

abbrev pub other : ℕ → ℕ → ℕ
other a b = cond (not (eqb a b)) 255 0

abbrev pub at_most : ℕ → ℕ → ℕ
at_most a b = cond (leb a b) 255 0

zip2_map : (h : ℕ → ℕ → ℕ) (f g : ℕ → ℕ) (xs : List ℕ) → zip2 h (map f xs) (map g xs) ≡ map (λ x. h (f x) (g x)) xs
zip2_map h f g [] = refl
zip2_map h f g (x ∷ xs) = ap (λ r. h (f x) (g x) ∷ r) (zip2_map h f g xs)

pub either : (f g : ℕ → ℕ) (v : List ℕ) {a b : List ℕ} → a ≡ map f v → b ≡ map g v → zip2 bit_or a b ≡ map (λ x. bit_or (f x) (g x)) v
either f g v p q = ap₂ (zip2 bit_or) p q ∙ zip2_map bit_or f g v

pub each_of : (f g : ℕ → ℕ) (v : List ℕ) {a b : List ℕ} → a ≡ map f v → b ≡ map g v → zip2 bit_and a b ≡ map (λ x. bit_and (f x) (g x)) v
each_of f g v p q = ap₂ (zip2 bit_and) p q ∙ zip2_map bit_and f g v

-- `simd_ge` is `simd_le` with its sides changed
pub from_splat : (h : ℕ → ℕ → ℕ) (f : ℕ → ℕ) (y n : ℕ) (v : List ℕ) {a : List ℕ} → length v ≡ n → a ≡ map f v
    → zip2 h (replicate n y) a ≡ map (λ x. h y (f x)) v
from_splat h f y n v long p = ap (zip2 h (replicate n y)) p ∙ zip2_splat_left h y n (map f v) (length-map v f ∙ long) ∙ map-map (h y) f v

each_byte : (f : ℕ → ℕ) (p : ℕ → Bool) → T (upto (λ x. same (top 7 (f x)) (p x)) 256) → (v : List ℕ) → Each1 (Fits w8) v
    → map (top 7) (map f v) ≡ map p v
each_byte f p all [] fits = refl
each_byte f p all (x ∷ xs) fits = ap₂ (λ a b. a ∷ b) (same_is _ _ (upto_sound (λ y. same (top 7 (f y)) (p y)) 256 all x fits.0.fits))
    (each_byte f p all xs fits.1)

-- a mask that is computed lane by lane is that of a test, as each of the 256 bytes shows
pub masked : (f : ℕ → ℕ) (p : ℕ → Bool) (v z : List ℕ) → length v ≤ 64 → Each1 (Fits w8) v → z ≡ map f v
    → T (upto (λ x. same (top 7 (f x)) (p x)) 256) → mask_l (map (top 7) z) % 2 ^ 64 ≡ mask_l (map p v)
masked f p v z short fits e all =
    ap (λ l. mask_l l % 2 ^ 64) (ap (map (top 7)) e ∙ each_byte f p all v fits) ∙ mask_l-mod (map p v) 64 (omega (arith, length-map v p))

-- ---- runs

not_not : (b : Bool) → b ≡ not (not b)
not_not true = refl
not_not false = refl

-- what does not stop a run is what passes
pub opposite : (q : ℕ → Bool) (x : ℕ) → q x ≡ not (not (q x))
opposite q x = not_not (q x)

pub run_within : (q : ℕ → Bool) (d : List ℕ) (i : ℕ) → i ≤ length d → i + prefix_len q (drop i d) ≤ length d
run_within q d i h = omega (arith, prefix_len-le-length q (drop i d), length-drop i d)

none_fails : (b : Bool) (n l m : ℕ) → n ≤ l → cond (not b) (1 + n) 0 ≡ 1 + l → (n ≡ l → m ≡ 0) → cond b 1 0 + 2 * m ≡ 0
none_fails true n l m le e ih = let no : ⊥ = omega arith in absurd no
none_fails false n l m le e ih = let z = ih (omega arith) in omega arith

-- p is the test that stops a run, and q the one that bytes in it pass
module _ (p q : ℕ → Bool) (opposite : (x : ℕ) → q x ≡ not (p x)) where
  same_run : (xs : List ℕ) → prefix_len q xs ≡ prefix_len (λ x. not (p x)) xs
  same_run [] = refl
  same_run (x ∷ xs) = ap₂ (λ b n. cond b (1 + n) 0) (opposite x) (same_run xs)

  all_pass : (xs : List ℕ) → prefix_len (λ x. not (p x)) xs ≡ length xs → mask_l (map p xs) ≡ 0
  all_pass [] e = refl
  all_pass (x ∷ xs) e = none_fails (p x) _ (length xs) _ (prefix_len-le-length (λ y. not (p y)) xs) (omega arith) (all_pass xs)

  split : (d : List ℕ) (i n : ℕ) → prefix_len q (drop i d) ≡ cond (eqb (prefix_len q (chunk i n d)) (length (chunk i n d)))
      (length (chunk i n d) + prefix_len q (drop (i + n) d)) (prefix_len q (chunk i n d))
  split d i n = ap (prefix_len q) (chunk-drop i n d) ∙ prefix_len-append q (chunk i n d) (drop (i + n) d)

  -- no byte of the vector stops it
  pub run_through : (d : List ℕ) (i n : ℕ) → i + n ≤ length d → mask_l (map p (chunk i n d)) ≡ 0
      → prefix_len q (drop i d) ≡ n + prefix_len q (drop (i + n) d)
  run_through d i n room none =
      let c = chunk i n d in
      split d i n ∙ ap (λ b. cond b (length c + prefix_len q (drop (i + n) d)) (prefix_len q c))
      (eq-eqb _ _ (same_run c ∙ leading_from_mask_l p c none))
      ∙ ap (λ k. k + prefix_len q (drop (i + n) d)) (length-chunk i n d room)

  -- the first that does
  pub run_stops : (d : List ℕ) (i n : ℕ) → i + n ≤ length d → n ≤ 64 → 0 < mask_l (map p (chunk i n d))
      → prefix_len q (drop i d) ≡ count_trailing_zeros 64 (mask_l (map p (chunk i n d)))
  run_stops d i n room short some =
      let c = chunk i n d in
      split d i n ∙ ap (λ b. cond b (length c + prefix_len q (drop (i + n) d)) (prefix_len q c))
      (ne_eqb _ _ (λ (e : prefix_len q c ≡ length c). omega (arith, all_pass c (sym (same_run c) ∙ e))))
      ∙ same_run c ∙ sym (trailing_mask_l p 64 c (omega (arith, length-chunk i n d room)) some)
