-- The folder that two files share, byte by byte.
use Rattle.std.proofs.Common.{◌≡◌, ◌≢◌, ◌∙◌, refl, ap, sym, subst, ℕ, suc, ◌<◌, ◌≤◌}
use Rattle.std.proofs.Common.{◌+◌, ◌==◌, ◌||◌, Bool, true, false, List, [], ◌∷◌, cond, length}
use Rattle.std.proofs.Common.{drop, get_or, arith, eq-eqb, eqb-true, ◌⊎◌, inl, inr, IsCharBoundary, drop_of_length-le}
use Rattle.std.proofs.lemmas.Bool.{ne_eqb}
use Rattle.std.proofs.lemmas.List.{drop_more}
use Rattle.std.proofs.lemmas.Str.{IsCharBoundary-after_ascii, IsCharBoundary-start}
use Rattle.std.specs.Str.{IsUtf8}
use Rattle.text_uri.specs.Letters.{is_slash, has_slash, through_last_slash}
use Rattle.text_uri.specs.Relative.{both_begin, shared}

both_none : (xs : List ℕ) → both_begin xs [] ≡ []
both_none [] = refl
both_none (x ∷ xs) = refl

-- the bytes up to the last slash that is ahead, or else s
abbrev pub ahead : ℕ → ℕ → List ℕ → ℕ
ahead i s xs = cond (has_slash xs) (i + length (through_last_slash xs)) s

-- the shared folder, where all before i is the same, and the last slash there is the one before s
abbrev pub IsShared : List ℕ → List ℕ → ℕ → ℕ → Type 0
IsShared file name i s = length (shared file name) ≡ ahead i s (both_begin (drop i file) (drop i name))

no_slash : (xs : List ℕ) → has_slash xs ≡ false → through_last_slash xs ≡ []
no_slash [] e = refl
no_slash (x ∷ xs) e = ap (λ b. cond b (x ∷ through_last_slash xs) []) e

ahead_first : (xs : List ℕ) → length (through_last_slash xs) ≡ ahead 0 0 xs
ahead_first xs = by (has_slash xs) refl
  where
    by : (b : Bool) → has_slash xs ≡ b → length (through_last_slash xs) ≡ cond b (0 + length (through_last_slash xs)) 0
    by true e = omega arith
    by false e = ap length (no_slash xs e)

ahead_slash : (i s x : ℕ) (xs : List ℕ) → is_slash x ≡ true → ahead i s (x ∷ xs) ≡ ahead (i + 1) (i + 1) xs
ahead_slash i s x xs e = ap (λ b. cond (b || has_slash xs) (i + length (cond (b || has_slash xs) (x ∷ through_last_slash xs) [])) s) e
    ∙ by (has_slash xs) refl
  where
    by : (b : Bool) → has_slash xs ≡ b → i + suc (length (through_last_slash xs)) ≡ cond b (i + 1 + length (through_last_slash xs)) (i + 1)
    by true e = omega arith
    by false e = ap (λ (ys : List ℕ). i + suc (length ys)) (no_slash xs e) ∙ omega arith

ahead_other : (i s x : ℕ) (xs : List ℕ) → is_slash x ≡ false → ahead i s (x ∷ xs) ≡ ahead (i + 1) s xs
ahead_other i s x xs e = ap (λ b. cond (b || has_slash xs) (i + length (cond (b || has_slash xs) (x ∷ through_last_slash xs) [])) s) e
    ∙ by (has_slash xs)
  where
    by : (b : Bool) → cond b (i + length (cond b (x ∷ through_last_slash xs) [])) s ≡ cond b (i + 1 + length (through_last_slash xs)) s
    by true = omega arith
    by false = refl

pub shared_first : (file name : List ℕ) → IsShared file name 0 0
shared_first file name = ahead_first (both_begin file name)

module _ (file name : List ℕ) (i s : ℕ) (h : IsShared file name i s) where
  pub shared_out : length name ≤ i → length (shared file name) ≡ s
  shared_out e =
      h ∙ (ap (λ ys. ahead i s (both_begin (drop i file) ys)) (drop_of_length-le name e) ∙ ap (ahead i s) (both_none (drop i file)))

  module _ (l : i < length file) (m : i < length name) where
    both_here : both_begin (drop i file) (drop i name)
        ≡ both_begin (get_or file i 0 ∷ drop (i + 1) file) (get_or name i 0 ∷ drop (i + 1) name)
    both_here = ap (λ xs. both_begin xs (drop i name)) (drop_more file i 0 l)
        ∙ ap (both_begin (get_or file i 0 ∷ drop (i + 1) file)) (drop_more name i 0 m)

    same_here : get_or name i 0 ≡ get_or file i 0
        → both_begin (drop i file) (drop i name) ≡ get_or file i 0 ∷ both_begin (drop (i + 1) file) (drop (i + 1) name)
    same_here e = both_here ∙ ap (λ b. cond b (get_or file i 0 ∷ both_begin (drop (i + 1) file) (drop (i + 1) name)) [])
        (eq-eqb (get_or file i 0) (get_or name i 0) (sym e))

    pub shared_apart : get_or name i 0 ≢ get_or file i 0 → length (shared file name) ≡ s
    shared_apart e = h ∙ ap (ahead i s) (both_here
        ∙ ap (λ b. cond b (get_or file i 0 ∷ both_begin (drop (i + 1) file) (drop (i + 1) name)) [])
        (ne_eqb (get_or file i 0) (get_or name i 0) (λ k. e (sym k))))

    pub shared_slash : get_or name i 0 ≡ get_or file i 0 → get_or file i 0 ≡ 47 → IsShared file name (i + 1) (i + 1)
    shared_slash e k = h ∙ (ap (ahead i s) (same_here e)
        ∙ ahead_slash i s (get_or file i 0) (both_begin (drop (i + 1) file) (drop (i + 1) name)) (eq-eqb (get_or file i 0) 47 k))

    pub shared_other : get_or name i 0 ≡ get_or file i 0 → get_or file i 0 ≢ 47 → IsShared file name (i + 1) s
    shared_other e k = h ∙ (ap (ahead i s) (same_here e)
        ∙ ahead_other i s (get_or file i 0) (both_begin (drop (i + 1) file) (drop (i + 1) name)) (ne_eqb (get_or file i 0) 47 k))

-- where the shared folder ends, a text may be cut

-- xs ends there, or a slash stands before
pub EndsAt : List ℕ → ℕ → Type 0
EndsAt xs n = (n ≡ 0) ⊎ ((k : ℕ) × (n ≡ k + 1) × (k < length xs) × (get_or xs k 0 ≡ 47))

ends_more : (x : ℕ) (xs ys : List ℕ) → EndsAt xs (length ys) → (length ys ≡ 0 → x ≡ 47) → EndsAt (x ∷ xs) (suc (length ys))
unfolding EndsAt
ends_more x xs ys (inl e) slash = inr (0, omega (arith, e), omega arith, slash e)
ends_more x xs ys (inr h) slash = inr (suc h.0, omega (arith, h.1), omega (arith, h.2), h.3)

through_none_has : (xs : List ℕ) → length (through_last_slash xs) ≡ 0 → has_slash xs ≡ false
through_none_has [] e = refl
through_none_has (x ∷ xs) e = by (has_slash (x ∷ xs)) refl e
  where
    by : (b : Bool) → has_slash (x ∷ xs) ≡ b → length (cond b (x ∷ through_last_slash xs) []) ≡ 0 → has_slash (x ∷ xs) ≡ false
    by true h e = absurd (omega (arith, e))
    by false h e = h

slash_first : (x : ℕ) (xs : List ℕ) → has_slash (x ∷ xs) ≡ true → length (through_last_slash xs) ≡ 0 → x ≡ 47
slash_first x xs h e = eqb-true x 47 (by (x == 47) refl (through_none_has xs e) h)
  where
    by : (b : Bool) → (x == 47) ≡ b → has_slash xs ≡ false → (b || has_slash xs) ≡ true → (x == 47) ≡ true
    by true k none h = k
    by false k none h = k ∙ (sym none ∙ h)

pub ends_shared : (xs ys : List ℕ) → EndsAt xs (length (shared xs ys)) × EndsAt ys (length (shared xs ys))
unfolding EndsAt
ends_shared [] ys = (inl refl, inl refl)
ends_shared (x ∷ xs) [] = (inl refl, inl refl)
ends_shared (x ∷ xs) (y ∷ ys) = by (x == y) refl (ends_shared xs ys)
  where
    inner : x ≡ y → (b : Bool) → has_slash (x ∷ both_begin xs ys) ≡ b
        → EndsAt xs (length (shared xs ys)) × EndsAt ys (length (shared xs ys))
        → EndsAt (x ∷ xs) (length (cond b (x ∷ shared xs ys) [])) × EndsAt (y ∷ ys) (length (cond b (x ∷ shared xs ys) []))
    inner e false h more = (inl refl, inl refl)
    inner e true h more =
        let slash : length (shared xs ys) ≡ 0 → x ≡ 47 = slash_first x (both_begin xs ys) h in
        (ends_more x xs (shared xs ys) more.0 slash, ends_more y ys (shared xs ys) more.1 (λ k. sym e ∙ slash k))

    by : (b : Bool) → (x == y) ≡ b → EndsAt xs (length (shared xs ys)) × EndsAt ys (length (shared xs ys))
        → EndsAt (x ∷ xs) (length (through_last_slash (cond b (x ∷ both_begin xs ys) [])))
        × EndsAt (y ∷ ys) (length (through_last_slash (cond b (x ∷ both_begin xs ys) [])))
    by true e more = inner (eqb-true x y e) (has_slash (x ∷ both_begin xs ys)) refl more
    by false e more = (inl refl, inl refl)

pub may_be_cut : (xs : List ℕ) (n : ℕ) → IsUtf8 xs → EndsAt xs n → IsCharBoundary xs n
unfolding EndsAt
may_be_cut xs n v (inl e) = subst (IsCharBoundary xs) (sym e) (IsCharBoundary-start xs v)
may_be_cut xs n v (inr h) = subst (IsCharBoundary xs) (sym h.1) (IsCharBoundary-after_ascii xs h.0 v h.2 (omega (arith, h.3)))
