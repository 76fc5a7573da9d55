-- Actions in turn, and actions on a part.
use Rattle.std.proofs.Common.{◌≡◌, ◌⊎◌, inl, inr, ⊎_elim, ℕ, suc, List, [], ◌∷◌, ◌++◌, Option, Some, length}
use Rattle.std.proofs.Common.{None, option_map, Ok, refl, sym, ap, ◌∙◌, subst, arith}
use Rattle.std.specs.Option.{option_map_or}
use Rattle.std.specs.Prelude.{option_and_then}
use Rattle.tinyjson.specs.JsonKind.TheVariants as kind
use Rattle.tinyjson.specs.Kind.{kind_of}
use Rattle.tinyjson.specs.Tree.{Tree, array, object}
use Rattle.tinyjson_patch.specs.Operation.{Action, add, remove, replace, move, copy, test, applied, or_fail, and_then}
use Rattle.tinyjson_patch.specs.Patch.{after, all_applied}
use Rattle.tinyjson_patch.specs.declared.operation.Reason.TheVariants.{NoPlace, NoTarget}
use Rattle.tinyjson_pointer.specs.Change.{with_child, without_child, changed_at, all_but_last, last_of, with_new_part, without_part}
use Rattle.tinyjson_pointer.specs.Walk.{step, part_at, with_step, with_part}
use Rattle.tinyjson_diff.specs.Patching.{path_of, AreLikeContainers, AreDifferences, AreElsewhere, AreApart}
use Rattle.tinyjson_diff.specs.Steps.{below, AreBelow, Lead, IsFit, AreFit, AreAt, Begun, Changes}

-- ---- in turn

pub lead_both : (xs ys : List Action) (t u v : Tree) → Lead xs t u → Lead ys u v → Lead (xs ++ ys) t v
lead_both [] ys t u v h g = subst (λ x. Lead ys x v) (sym h) g
lead_both (a ∷ xs) ys t u v h g = (h.0, h.1, lead_both xs ys h.0 u v h.2 g)

pub lead_applied : (n : ℕ) (xs : List Action) (t u : Tree) → Lead xs t u → all_applied n xs t ≡ Ok u
lead_applied n [] t u h = ap Ok h
lead_applied n (a ∷ xs) t u h =
    ap (λ r. after n r (λ x. all_applied (suc n) xs x)) h.1 ∙ lead_applied (suc n) xs h.0 u h.2

fit_both : (r : ℕ) (t u : Tree) (xs ys : List Action) → AreFit r t u xs → AreFit r t u ys → AreFit r t u (xs ++ ys)
fit_both r t u [] ys h g = g
fit_both r t u (a ∷ xs) ys h g = (h.0, fit_both r t u xs ys h.1 g)

elsewhere_both : (p : List (List ℕ)) (xs ys : List Action) → AreElsewhere p xs → AreElsewhere p ys → AreElsewhere p (xs ++ ys)
elsewhere_both p [] ys h g = g
elsewhere_both p (a ∷ xs) ys h g = (h.0, elsewhere_both p xs ys h.1 g)

same_head : (k l : List ℕ) (ks ls : List (List ℕ)) → k ∷ ks ≡ l ∷ ls → k ≡ l
same_head k l ks ls e = cc

same_tail : (k l : List ℕ) (ks ls : List (List ℕ)) → k ∷ ks ≡ l ∷ ls → ks ≡ ls
same_tail k l ks ls e = cc

module _ (P Q R : List ℕ → Type 0) (no : (k : List ℕ) → P k → Q k → ⊥) where
  elsewhere_at : (k : List ℕ) (ks : List (List ℕ)) (ys : List Action) → P k → AreAt Q ys → AreElsewhere (k ∷ ks) ys
  elsewhere_at k ks [] here h = tt
  elsewhere_at k ks (b ∷ ys) here h =
      ((λ e. no k here (subst Q (sym (same_head k h.0.0 ks h.0.1 (e ∙ h.0.3))) h.0.2)), elsewhere_at k ks ys here h.1)

  apart_both : (xs ys : List Action) → AreApart xs → AreApart ys → AreAt P xs → AreAt Q ys → AreApart (xs ++ ys)
  apart_both [] ys h g f e = g
  apart_both (a ∷ xs) ys h g f e = (
    elsewhere_both (path_of a) xs ys h.0
        (subst (λ p. AreElsewhere p ys) (sym f.0.3) (elsewhere_at f.0.0 f.0.1 ys f.0.2 e)),
    apart_both xs ys h.1 g f.1 e,
  )

  names_both : (xs ys : List Action) → ((k : List ℕ) → P k → R k) → ((k : List ℕ) → Q k → R k) → AreAt P xs → AreAt Q ys
      → AreAt R (xs ++ ys)
  names_both [] [] p q f e = tt
  names_both [] (b ∷ ys) p q f e = ((e.0.0, e.0.1, q e.0.0 e.0.2, e.0.3), names_both [] ys p q f e.1)
  names_both (a ∷ xs) ys p q f e = ((f.0.0, f.0.1, p f.0.0 f.0.2, f.0.3), names_both xs ys p q f.1 e)

  -- the actions after the first ones
  pub begun_more : (r : ℕ) (t u now next : Tree) (xs ys : List Action) → Begun r t u now P xs → Lead ys now next
      → AreFit (suc r) t u ys → AreApart ys → AreAt Q ys → ((k : List ℕ) → P k → R k) → ((k : List ℕ) → Q k → R k)
      → Begun r t u next R (xs ++ ys)
  begun_more r t u now next xs ys b h f a n p q = record {
    lead = lead_both xs ys t now next b.lead h;
    fit = fit_both (suc r) t u xs ys b.fit f;
    apart = apart_both xs ys b.apart a b.names n;
    names = names_both xs ys p q b.names n;
  }

names_weaker : (P R : List ℕ → Type 0) (xs : List Action) → ((k : List ℕ) → P k → R k) → AreAt P xs → AreAt R xs
names_weaker P R [] p h = tt
names_weaker P R (a ∷ xs) p h = ((h.0.0, h.0.1, p h.0.0 h.0.2, h.0.3), names_weaker P R xs p h.1)

pub begun_same : (P R : List ℕ → Type 0) (r : ℕ) (t u now : Tree) (xs : List Action) → ((k : List ℕ) → P k → R k)
    → Begun r t u now P xs → Begun r t u now R xs
begun_same P R r t u now xs p b = record { lead = b.lead; fit = b.fit; apart = b.apart; names = names_weaker P R xs p b.names }

-- none are left
pub begun_ends : (P : List ℕ → Type 0) (r : ℕ) (t u : Tree) (xs : List Action) → Begun r t u u P xs → Changes (suc r) t u xs
begun_ends P r t u xs b = record { lead = b.lead; fit = b.fit; apart = b.apart }

pub begun_none : (P : List ℕ → Type 0) (r : ℕ) (t u : Tree) → Begun r t u t P []
begun_none P r t u = record { lead = refl; fit = tt; apart = tt; names = tt }

-- ---- a part that one of the trees has alone

abbrev here_or_not : Option Tree → Option Tree
here_or_not = option_and_then (λ c. Some c)

some_there : (v : Tree) → Some v ≡ None → ⊥
some_there v e = cc

pub alone_old : (r : ℕ) (t u v : Tree) (k : List ℕ) → step t k ≡ Some v → step u k ≡ None → IsFit (suc r) t u (remove (k ∷ []))
alone_old r t u v k h g = (omega arith, ((λ e. some_there v (sym (ap here_or_not h) ∙ e)), ap here_or_not g))

pub alone_new : (r : ℕ) (t u v : Tree) (k : List ℕ) → step t k ≡ None → step u k ≡ Some v → IsFit (suc r) t u (add (k ∷ []) v)
alone_new r t u v k h g = (omega arith, (ap here_or_not h, ap here_or_not g))

-- the action on that part after the first ones
module _ (P N R : List ℕ → Type 0) (no : (k : List ℕ) → P k → N k → ⊥) (p : (k : List ℕ) → P k → R k) (n : (k : List ℕ) → N k → R k)
    (r : ℕ) (t u now next : Tree) (k : List ℕ) (named : N k) where
  pub remove_more : (xs : List Action) → Begun r t u now P xs → applied (remove (k ∷ [])) now ≡ Ok next
      → IsFit (suc r) t u (remove (k ∷ []))
      → Begun r t u next R (xs ++ remove (k ∷ []) ∷ [])
  remove_more xs b h f =
      begun_more P N R no r t u now next xs (remove (k ∷ []) ∷ []) b (next, h, refl) (f, tt) (tt, tt) ((k, [], named, refl), tt) p n

  pub add_more : (v : Tree) (xs : List Action) → Begun r t u now P xs → applied (add (k ∷ []) v) now ≡ Ok next
      → IsFit (suc r) t u (add (k ∷ []) v) → Begun r t u next R (xs ++ add (k ∷ []) v ∷ [])
  add_more v xs b h f =
      begun_more P N R no r t u now next xs (add (k ∷ []) v ∷ []) b (next, h, refl) (f, tt) (tt, tt) ((k, [], named, refl), tt) p n

-- ---- on a part

with_part_step : (s x u : Tree) (k : List ℕ) (ks : List (List ℕ)) → step s k ≡ Some x
    → with_part s (k ∷ ks) u ≡ with_step s k (with_part x ks u)
with_part_step s x u k ks e = ap (λ o. option_map_or (λ p. with_step s k (with_part p ks u)) o s) e

changed_below : (f : Tree → Option Tree) (s x : Tree) (k : List ℕ) (ks : List (List ℕ)) → step s k ≡ Some x
    → changed_at f s (k ∷ ks) ≡ option_map (with_step s k) (changed_at f x ks)
changed_below f s x k ks e =
    ap (option_and_then (λ c. option_map (with_part s (k ∷ ks)) (f c))) (ap (option_and_then (λ c. part_at c ks)) e) ∙ by (part_at x ks)
  where
    inside : (o : Option Tree) → option_map (with_part s (k ∷ ks)) o ≡ option_map (with_step s k) (option_map (with_part x ks) o)
    inside None = refl
    inside (Some d) = ap Some (with_part_step s x d k ks e)

    by : (o : Option Tree) → option_and_then (λ c. option_map (with_part s (k ∷ ks)) (f c)) o
        ≡ option_map (with_step s k) (option_and_then (λ c. option_map (with_part x ks) (f c)) o)
    by None = refl
    by (Some c) = inside (f c)

module _ (s x y : Tree) (k : List ℕ) (here : step s k ≡ Some x) where
  inner_added : (j : List ℕ) (js : List (List ℕ)) (u : Tree) → applied (add (j ∷ js) u) x ≡ Ok y
      → applied (add (k ∷ j ∷ js) u) s ≡ Ok (with_step s k y)
  inner_added j js u h =
      ap (λ o. or_fail o NoPlace) (changed_below (λ c. with_child c (last_of j js) u) s x k (all_but_last j js) here)
      ∙ by (with_new_part x (j ∷ js) u) h
    where
      by : (o : Option Tree) → or_fail o NoPlace ≡ Ok y → or_fail (option_map (with_step s k) o) NoPlace ≡ Ok (with_step s k y)
      by None e = cc
      by (Some z) e = let same : z ≡ y = cc in ap (λ w. Ok (with_step s k w)) same

  inner_removed : (j : List ℕ) (js : List (List ℕ)) → applied (remove (j ∷ js)) x ≡ Ok y
      → applied (remove (k ∷ j ∷ js)) s ≡ Ok (with_step s k y)
  inner_removed j js h =
      ap (λ o. or_fail o NoTarget) (changed_below (λ c. without_child c (last_of j js)) s x k (all_but_last j js) here)
      ∙ by (without_part x (j ∷ js)) h
    where
      by : (o : Option Tree) → or_fail o NoTarget ≡ Ok y → or_fail (option_map (with_step s k) o) NoTarget ≡ Ok (with_step s k y)
      by None e = cc
      by (Some z) e = let same : z ≡ y = cc in ap (λ w. Ok (with_step s k w)) same

  inner_replaced : (p : List (List ℕ)) (u : Tree) → applied (replace p u) x ≡ Ok y → applied (replace (k ∷ p) u) s ≡ Ok (with_step s k y)
  inner_replaced p u h =
      ap (λ o. and_then (or_fail o NoTarget) (λ old. Ok (with_part s (k ∷ p) u))) (ap (option_and_then (λ c. part_at c p)) here)
      ∙ by (part_at x p) h
    where
      by : (o : Option Tree) → and_then (or_fail o NoTarget) (λ old. Ok (with_part x p u)) ≡ Ok y
          → and_then (or_fail o NoTarget) (λ old. Ok (with_part s (k ∷ p) u)) ≡ Ok (with_step s k y)
      by None e = cc
      by (Some z) e =
          let same : with_part x p u ≡ y = cc in ap Ok (with_part_step s x u k p here ∙ ap (with_step s k) same)

  applied_below : (r : ℕ) (t u : Tree) (a : Action) → IsFit r t u a → applied a x ≡ Ok y → applied (below k a) s ≡ Ok (with_step s k y)
  applied_below r t u (add [] v) f h = absurd (some_there t f.1.0)
  applied_below r t u (add (j ∷ js) v) f h = inner_added j js v h
  applied_below r t u (remove []) f h = absurd (some_there u f.1.1)
  applied_below r t u (remove (j ∷ js)) f h = inner_removed j js h
  applied_below r t u (replace p v) f h = inner_replaced p v h
  applied_below r t u (move from p) f h = absurd f.1
  applied_below r t u (copy from p) f h = absurd f.1
  applied_below r t u (test p v) f h = absurd f.1

path_below : (k : List ℕ) (a : Action) → path_of (below k a) ≡ k ∷ path_of a
path_below k (add p u) = refl
path_below k (remove p) = refl
path_below k (replace p u) = refl
path_below k (move from p) = refl
path_below k (copy from p) = refl
path_below k (test p u) = refl

module _ (N : List ℕ → Type 0) where
  names_below : (xs ys : List Action) → AreBelow N xs ys → AreAt N ys
  names_below [] [] h = tt
  names_below [] (b ∷ ys) h = absurd h
  names_below (a ∷ xs) [] h = absurd h
  names_below (a ∷ xs) (b ∷ ys) h =
      ((h.0.0, path_of a, h.0.1, ap path_of h.0.2 ∙ path_below h.0.0 a), names_below xs ys h.1)

  elsewhere_below : (k : List ℕ) (p : List (List ℕ)) (xs ys : List Action) → AreElsewhere p xs → AreBelow N xs ys
      → AreElsewhere (k ∷ p) ys
  elsewhere_below k p [] [] h g = tt
  elsewhere_below k p [] (b ∷ ys) h g = absurd g
  elsewhere_below k p (a ∷ xs) [] h g = absurd g
  elsewhere_below k p (a ∷ xs) (b ∷ ys) h g = (
    (λ e. h.0 (same_tail k g.0.0 p (path_of a) (e ∙ (ap path_of g.0.2 ∙ path_below g.0.0 a)))),
    elsewhere_below k p xs ys h.1 g.1,
  )

  apart_below : (xs ys : List Action) → AreApart xs → AreBelow N xs ys → AreApart ys
  apart_below [] [] h g = tt
  apart_below [] (b ∷ ys) h g = absurd g
  apart_below (a ∷ xs) [] h g = absurd g
  apart_below (a ∷ xs) (b ∷ ys) h g = (
    subst (λ p. AreElsewhere p ys) (sym (ap path_of g.0.2 ∙ path_below g.0.0 a)) (elsewhere_below g.0.0 (path_of a) xs ys h.0 g.1),
    apart_below xs ys h.1 g.1,
  )

  module _ (r : ℕ) (t u v w : Tree) (old : (k : List ℕ) → N k → step t k ≡ Some v) (new : (k : List ℕ) → N k → step u k ≡ Some w) where
    old_part : (k : List ℕ) (p : List (List ℕ)) → N k → part_at t (k ∷ p) ≡ part_at v p
    old_part k p n = ap (option_and_then (λ c. part_at c p)) (old k n)

    new_part : (k : List ℕ) (p : List (List ℕ)) → N k → part_at u (k ∷ p) ≡ part_at w p
    new_part k p n = ap (option_and_then (λ c. part_at c p)) (new k n)

    may_below : (k : List ℕ) (p : List (List ℕ)) → N k → (length p ≡ r) ⊎ ¬ AreLikeContainers (part_at v p) (part_at w p)
        → (length (k ∷ p) ≡ suc r) ⊎ ¬ AreLikeContainers (part_at t (k ∷ p)) (part_at u (k ∷ p))
    may_below k p n =
        ⊎_elim (λ e. inl (ap suc e))
        (λ no. inr (λ c. no (subst (λ o. AreLikeContainers o (part_at w p)) (old_part k p n)
        (subst (AreLikeContainers (part_at t (k ∷ p))) (new_part k p n) c))))

    one_fit : (k : List ℕ) (a : Action) → N k → IsFit r v w a → IsFit (suc r) t u (below k a)
    one_fit k (add p z) n h = (omega (arith, h.0), (old_part k p n ∙ h.1.0, new_part k p n ∙ h.1.1))
    one_fit k (remove p) n h = (omega (arith, h.0), ((λ e. h.1.0 (sym (old_part k p n) ∙ e)), new_part k p n ∙ h.1.1))
    one_fit k (replace p z) n h = (
      omega (arith, h.0),
      ((λ e. h.1.0 (sym (old_part k p n) ∙ (e ∙ new_part k p n))), new_part k p n ∙ h.1.1, may_below k p n h.1.2),
    )
    one_fit k (move from p) n h = absurd h.1
    one_fit k (copy from p) n h = absurd h.1
    one_fit k (test p z) n h = absurd h.1

    fit_below : (xs ys : List Action) → AreFit r v w xs → AreBelow N xs ys → AreFit (suc r) t u ys
    fit_below [] [] h g = tt
    fit_below [] (b ∷ ys) h g = absurd g
    fit_below (a ∷ xs) [] h g = absurd g
    fit_below (a ∷ xs) (b ∷ ys) h g =
        (subst (IsFit (suc r) t u) (sym g.0.2) (one_fit g.0.0 a g.0.1 h.0), fit_below xs ys h.1 g.1)

    -- `set x` is the whole with x as that part
    module _ (set : Tree → Tree) (at : (k : List ℕ) (x : Tree) → N k → step (set x) k ≡ Some x)
        (again : (k : List ℕ) (x y : Tree) → N k → with_step (set x) k y ≡ set y) where
      lead_below : (xs ys : List Action) (x y : Tree) → AreFit r v w xs → Lead xs x y → AreBelow N xs ys → Lead ys (set x) (set y)
      lead_below [] [] x y f h g = ap set h
      lead_below [] (b ∷ ys) x y f h g = absurd g
      lead_below (a ∷ xs) [] x y f h g = absurd g
      lead_below (a ∷ xs) (b ∷ ys) x y f h g = (
        set h.0,
        ap (λ c. applied c (set x)) g.0.2
            ∙ (applied_below (set x) x h.0 g.0.0 (at g.0.0 x g.0.1) r v w a f.0 h.1 ∙ ap Ok (again g.0.0 x h.0 g.0.1)),
        lead_below xs ys h.0 y f.1 h.2 g.1,
      )

      -- the actions on that part after the first ones
      pub part_more : (P R : List ℕ → Type 0) (xs ys inner : List Action) → ((k : List ℕ) → P k → N k → ⊥) → ((k : List ℕ) → P k → R k)
          → ((k : List ℕ) → N k → R k) → Begun r t u (set v) P xs → Changes r v w inner → AreBelow N inner ys
          → Begun r t u (set w) R (xs ++ ys)
      part_more P R xs ys inner other p n b c g =
          begun_more P N R other r t u (set v) (set w) xs ys b (lead_below inner ys v w c.fit c.lead g) (fit_below inner ys c.fit g)
          (apart_below inner ys c.apart g) (names_below inner ys g) p n

-- ---- the whole

pub no_changes : (r : ℕ) (t u : Tree) → t ≡ u → Changes r t u []
no_changes r t u e = record { lead = e; fit = tt; apart = tt }

pub whole_change : (r : ℕ) (t u : Tree) → ¬ (t ≡ u) → (0 ≡ r) ⊎ ¬ AreLikeContainers (Some t) (Some u)
    → Changes r t u (replace [] u ∷ [])
whole_change r t u differ may = record {
  lead = (u, refl, refl);
  fit = ((omega arith, ((λ e. differ (by e)), refl, may)), tt);
  apart = (tt, tt);
}
  where
    by : Some t ≡ Some u → t ≡ u
    by e = cc

-- values of other kinds than the two that are compared part by part
pub no_containers : (t u : Tree) → (kind.Object ≡ kind_of t → kind.Object ≡ kind_of u → ⊥)
    → (kind.Array ≡ kind_of t → kind.Array ≡ kind_of u → ⊥) → ¬ AreLikeContainers (Some t) (Some u)
no_containers (object ms) (object ns) f g h = f refl refl
no_containers (array ts) (array us) f g h = g refl refl
no_containers _ _ f g h = absurd h

-- ---- what is promised

pub differences : (r : ℕ) (t u : Tree) (xs : List Action) → AreFit r t u xs → AreDifferences r t u xs
differences r t u [] h = tt
differences r t u (a ∷ xs) h = (h.0.1, differences r t u xs h.1)
