-- What is picked after a member was put or taken out.
use Rattle.std.proofs.Common.{◌≡◌, Bool, true, false, ℕ, List, Option, Some, None, cond, bytes_eq, refl, sym, ap, ◌∙◌}
use Rattle.std.proofs.lemmas.Slice.Eq.{bytes_eq-Decides}
use Rattle.example_pick.specs.Picking.{is_scalar, picked_at, Picks, scalar_of, stored}
use Rattle.tinyjson.proofs.Callers.{find_put, find_remove}
use Rattle.tinyjson.specs.Tree.{Tree, Members, array, find, no_items, put, remove}

-- ---- at one key: b says whether it is the key that was put, w whether it is wanted

module _ (w : Bool) (t : Tree) (o f : Option Tree) where
  wanted_at : (b : Bool) → is_scalar t ≡ true → (b ≡ true → w ≡ true) → f ≡ cond w (scalar_of o) None
      → cond b (Some t) f ≡ cond w (scalar_of (cond b (Some t) o)) None
  wanted_at true s e h = sym (ap (λ x. cond x (cond (is_scalar t) (Some t) None) None) (e refl) ∙ ap (λ x. cond x (Some t) None) s)
  wanted_at false s e h = h

  unwanted_at : (b : Bool) → (b ≡ true → w ≡ false) → f ≡ cond w (scalar_of o) None → f ≡ cond w (scalar_of (cond b (Some t) o)) None
  unwanted_at true e h = h ∙ ap (λ x. cond x (scalar_of o) None) (e refl) ∙ sym (ap (λ x. cond x (scalar_of (Some t)) None) (e refl))
  unwanted_at false e h = h

nothing : (w : Bool) (t : Tree) → is_scalar t ≡ false → cond w (scalar_of (Some t)) None ≡ None
nothing true t s = ap (λ x. cond x (Some t) None) s
nothing false t s = refl

removed_at : (b w : Bool) (t : Tree) (o f : Option Tree) → is_scalar t ≡ false → f ≡ cond w (scalar_of o) None
    → cond b None f ≡ cond w (scalar_of (cond b (Some t) o)) None
removed_at true w t o f s h = sym (nothing w t s)
removed_at false w t o f s h = h

other_at : (b w : Bool) (t u : Tree) (o : Option Tree) → is_scalar t ≡ false → is_scalar u ≡ false
    → cond w (scalar_of (cond b (Some t) o)) None ≡ cond w (scalar_of (cond b (Some u) o)) None
other_at true w t u o s r = nothing w t s ∙ sym (nothing w u r)
other_at false w t u o s r = refl

-- ---- at each key

module _ (wants : List ℕ → Bool) (ms ps : Members) (k : List ℕ) where
  -- what was put is seen at each key
  seen : (t : Tree) (j : List ℕ) → cond (wants j) (scalar_of (cond (bytes_eq j k) (Some t) (find j ms))) None
      ≡ picked_at wants (put k t ms) j
  seen t j = ap (λ o. cond (wants j) (scalar_of o) None) (sym (find_put j k t ms))

  pub stored_picks : (t : Tree) → is_scalar t ≡ true → Picks wants ms ps → Picks wants (put k t ms) (stored wants (Some k) t ps)
  stored_picks t s h = by (wants k) refl
    where
      by : (b : Bool) → wants k ≡ b → Picks wants (put k t ms) (cond b (put k t ps) ps)
      by true e = λ j.
          let same : bytes_eq j k ≡ true → wants j ≡ true = λ q. ap wants ((bytes_eq-Decides j k).0 q) ∙ e in
          find_put j k t ps ∙ wanted_at (wants j) t (find j ms) (find j ps) (bytes_eq j k) s same (h j) ∙ seen t j
      by false e = λ j.
          let same : bytes_eq j k ≡ true → wants j ≡ false = λ q. ap wants ((bytes_eq-Decides j k).0 q) ∙ e in
          unwanted_at (wants j) t (find j ms) (find j ps) (bytes_eq j k) same (h j) ∙ seen t j

  -- a container is put at the key, whichever it is
  pub removed_picks : Picks wants ms ps → Picks wants (put k (array no_items) ms) (remove k ps)
  removed_picks h = λ j. find_remove j k ps
      ∙ removed_at (bytes_eq j k) (wants j) (array no_items) (find j ms) (find j ps) refl (h j) ∙ seen (array no_items) j

  pub other_picks : (t : Tree) → is_scalar t ≡ false → Picks wants (put k (array no_items) ms) ps → Picks wants (put k t ms) ps
  other_picks t s h = λ j. h j ∙ sym (seen (array no_items) j)
      ∙ other_at (bytes_eq j k) (wants j) (array no_items) t (find j ms) refl s ∙ seen t j
