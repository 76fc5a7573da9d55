-- The actions from one array to another: items are removed from its end, and then the items of the new one are passed.
use Rattle.std.proofs.Common.{◌≡◌, ◌⊎◌, inl, inr, ⊎_elim, ◌<◌, ◌≤◌, ◌+◌, ℕ, zero, suc, Bool, true, false, cond, bytes_eq, codes}
use Rattle.std.proofs.Common.{List, [], ◌∷◌, ◌++◌, Some, None}
use Rattle.std.proofs.Common.{Ok, option_map, length, take, drop, append_assoc, append-nil, length-append}
use Rattle.std.proofs.Common.{refl, sym, ap, ◌∙◌, subst, arith}
use Rattle.std.proofs.lemmas.List.{nil_from_length, take_all}
use Rattle.std.proofs.lemmas.Slice.Eq.{bytes_eq-Decides}
use Rattle.std.specs.Prelude.{option_and_then}
use Rattle.tinyjson.proofs.Callers.{nth_past, nth_with_nth, with_nth_back}
use Rattle.tinyjson.specs.Index.{item_count, nth, with_nth}
use Rattle.tinyjson.specs.Tree.{Tree, array, Items, item}
use Rattle.tinyjson_view.specs.Views.{tree_of, trees_of}
use Rattle.tinyjson_view.specs.declared.view.ValueView.{ValueView}
use Rattle.tinyjson_patch.specs.Operation as op
use Rattle.tinyjson_patch.specs.Operation.{Action, applied, or_fail}
use Rattle.tinyjson_patch.specs.declared.operation.Reason.TheVariants.{NoPlace, NoTarget}
use Rattle.tinyjson_pointer.proofs.Callers.{with_nth_again}
use Rattle.tinyjson_pointer.specs.Change.{with_item_before, without_nth, without_item, insertion_index}
use Rattle.tinyjson_pointer.specs.Index.{index_of}
use Rattle.tinyjson_pointer.specs.Walk.{step, item_of, with_item_of}
use Rattle.tinyjson_diff.specs.Steps.{AreBelow, Begun, Changes, IsPast, RemoveItems}
use Rattle.tinyjson_diff.proofs.Leading.{add_more, alone_new, alone_old, begun_ends, begun_none, begun_same, part_more, remove_more}

-- ---- lists of items

nth_at : (ds rs : List ValueView) (v : ValueView) (i : ℕ) → length ds ≡ i → nth (trees_of (ds ++ v ∷ rs)) i ≡ Some (tree_of v)
nth_at [] rs v zero h = refl
nth_at [] rs v (suc i) h = absurd (omega arith)
nth_at (d ∷ ds) rs v zero h = absurd (omega arith)
nth_at (d ∷ ds) rs v (suc i) h = nth_at ds rs v i (omega arith)

set_at : (ds rs : List ValueView) (v w : ValueView) (i : ℕ) → length ds ≡ i
    → with_nth (trees_of (ds ++ v ∷ rs)) i (tree_of w) ≡ trees_of (ds ++ w ∷ rs)
set_at [] rs v w zero h = refl
set_at [] rs v w (suc i) h = absurd (omega arith)
set_at (d ∷ ds) rs v w zero h = absurd (omega arith)
set_at (d ∷ ds) rs v w (suc i) h = ap (item (tree_of d)) (set_at ds rs v w i (omega arith))

added_last : (ds : List ValueView) (w : ValueView) (i : ℕ) → length ds ≡ i
    → with_item_before (trees_of ds) i (tree_of w) ≡ Some (trees_of (ds ++ w ∷ []))
added_last [] w zero h = refl
added_last [] w (suc i) h = absurd (omega arith)
added_last (d ∷ ds) w zero h = absurd (omega arith)
added_last (d ∷ ds) w (suc i) h = ap (option_map (item (tree_of d))) (added_last ds w i (omega arith))

removed_last : (ds : List ValueView) (v : ValueView) (i : ℕ) → length ds ≡ i → without_nth (trees_of (ds ++ v ∷ [])) i ≡ trees_of ds
removed_last [] v zero h = refl
removed_last [] v (suc i) h = absurd (omega arith)
removed_last (d ∷ ds) v zero h = absurd (omega arith)
removed_last (d ∷ ds) v (suc i) h = ap (item (tree_of d)) (removed_last ds v i (omega arith))

counted_trees : (vs : List ValueView) → item_count (trees_of vs) ≡ length vs
counted_trees [] = refl
counted_trees (v ∷ vs) = ap suc (counted_trees vs)

past_view : (vs : List ValueView) (i : ℕ) → length vs ≤ i → nth (trees_of vs) i ≡ None
past_view vs i h = nth_past (trees_of vs) i (subst (λ n. n ≤ i) (sym (counted_trees vs)) h)

-- ---- a token that is an index

one_index : (k : List ℕ) (i j : ℕ) → index_of k ≡ Some i → index_of k ≡ Some j → i ≡ j
one_index k i j h g = by (sym h ∙ g)
  where
    by : Some i ≡ Some j → i ≡ j
    by e = cc

place_from : (n : ℕ) (k : List ℕ) (i : ℕ) → index_of k ≡ Some i → insertion_index n k ≡ Some i
place_from n k i h = by (bytes_eq k (codes "-")) refl
  where
    by : (b : Bool) → bytes_eq k (codes "-") ≡ b → cond b (Some n) (index_of k) ≡ Some i
    by true e = let none : index_of k ≡ None = ap index_of ((bytes_eq-Decides k (codes "-")).0 e) in cc
    by false e = h

step_at : (vs : List ValueView) (k : List ℕ) (i : ℕ) → index_of k ≡ Some i → step (array (trees_of vs)) k ≡ nth (trees_of vs) i
step_at vs k i h = ap (item_of (trees_of vs)) h

item_removed : (ds : List ValueView) (v : ValueView) (k : List ℕ) (i : ℕ) → length ds ≡ i → index_of k ≡ Some i
    → applied (op.remove (k ∷ [])) (array (trees_of (ds ++ v ∷ []))) ≡ Ok (array (trees_of ds))
item_removed ds v k i h named =
    let ts : Items = trees_of (ds ++ v ∷ []) in
    ap (λ o. or_fail (option_map (λ x. x) (option_map (λ x. array (without_item ts o)) (item_of ts o))) NoTarget) named
    ∙ (ap (λ o. or_fail (option_map (λ x. x) (option_map (λ x. array (without_nth ts i)) o)) NoTarget) (nth_at ds [] v i h)
    ∙ ap (λ x. Ok (array x)) (removed_last ds v i h))

item_added : (ds : List ValueView) (w : ValueView) (k : List ℕ) (i : ℕ) → length ds ≡ i → index_of k ≡ Some i
    → applied (op.add (k ∷ []) (tree_of w)) (array (trees_of ds)) ≡ Ok (array (trees_of (ds ++ w ∷ [])))
item_added ds w k i h named =
    let ts : Items = trees_of ds in
    ap (λ o. or_fail (option_map (λ x. x) (option_map array (option_and_then (λ j. with_item_before ts j (tree_of w)) o))) NoPlace)
    (place_from (item_count ts) k i named)
    ∙ ap (λ o. or_fail (option_map (λ x. x) (option_map array o)) NoPlace) (added_last ds w i h)

-- ---- the items beyond the length of the new array

-- The items of the old array after those that are left are removed.
pub record RemovesLast (vs ws left : List ValueView) (xs : List Action) : Type 0 where
  pub gone : List ValueView
  pub split : vs ≡ left ++ gone
  pub full : (gone ≡ []) ⊎ (length ws ≤ length left)
  pub begun : (r : ℕ) → Begun r (array (trees_of vs)) (array (trees_of ws)) (array (trees_of left))
      (λ k. IsPast (length ws) k × IsPast (length left) k) xs

last_begins : (vs ws : List ValueView) → RemovesLast vs ws vs []
last_begins vs ws = record {
  gone = [];
  split = sym (append-nil vs);
  full = inl refl;
  begun = λ r. begun_none (λ k. IsPast (length ws) k × IsPast (length vs) k) r (array (trees_of vs)) (array (trees_of ws));
}

last_next : (vs ws left front : List ValueView) (v : ValueView) (k : List ℕ) (i : ℕ) (xs : List Action) → RemovesLast vs ws left xs
    → left ≡ front ++ v ∷ [] → length front ≡ i → length ws ≤ i → index_of k ≡ Some i
    → RemovesLast vs ws front (xs ++ op.remove (k ∷ []) ∷ [])
last_next vs ws left front v k i xs h is count long named = record {
  gone = v ∷ h.gone;
  split = all;
  full = inr (subst (λ n. length ws ≤ n) (sym count) long);
  begun = λ r.
      remove_more (λ q. IsPast (length ws) q × IsPast (length left) q) (λ q. index_of q ≡ Some i)
      (λ q. IsPast (length ws) q × IsPast (length front) q) no weaker own r (array (trees_of vs)) (array (trees_of ws))
      (array (trees_of left)) (array (trees_of front)) k named xs (h.begun r)
      (ap (λ x. applied (op.remove (k ∷ [])) (array (trees_of x))) is ∙ item_removed front v k i count named)
      (alone_old r (array (trees_of vs)) (array (trees_of ws)) (tree_of v) k
      (step_at vs k i named ∙ (ap (λ x. nth (trees_of x) i) all ∙ nth_at front h.gone v i count))
      (step_at ws k i named ∙ past_view ws i long));
}
  where
    all : vs ≡ front ++ v ∷ h.gone
    all = h.split ∙ (ap (λ x. x ++ h.gone) is ∙ append_assoc front (v ∷ []) h.gone)

    longer : length left ≡ suc i
    longer = ap length is ∙ (length-append front (v ∷ []) ∙ omega (arith, count))

    no : (q : List ℕ) → IsPast (length ws) q × IsPast (length left) q → index_of q ≡ Some i → ⊥
    no q p n = let same : p.1.0 ≡ i = one_index q p.1.0 i p.1.1 n in omega (arith, same, longer, p.1.2)

    weaker : (q : List ℕ) → IsPast (length ws) q × IsPast (length left) q → IsPast (length ws) q × IsPast (length front) q
    weaker q p = (p.0, (p.1.0, p.1.1, omega (arith, longer, count, p.1.2)))

    own : (q : List ℕ) → index_of q ≡ Some i → IsPast (length ws) q × IsPast (length front) q
    own q n = ((i, n, long), (i, n, omega (arith, count)))

pub last_ends : (vs ws left : List ValueView) (xs : List Action) → RemovesLast vs ws left xs → length left ≤ length ws
    → RemoveItems vs ws xs left
last_ends vs ws left xs h short = record {
  gone = h.gone;
  split = h.split;
  short = short;
  full = ⊎_elim (λ e. inl e) (λ l. inr (omega (arith, l, short))) h.full;
  begun = λ r.
      begun_same (λ k. IsPast (length ws) k × IsPast (length left) k) (IsPast (length ws)) r (array (trees_of vs))
      (array (trees_of ws)) (array (trees_of left)) xs (λ k p. p.0) (h.begun r);
}

-- the first items, and the last one of them

last_taken : (vs : List ValueView) (i : ℕ) → i < length vs → (v : ValueView) × (take (suc i) vs ≡ take i vs ++ v ∷ [])
last_taken [] i h = absurd (omega (arith, h))
last_taken (v ∷ vs) zero h = (v, refl)
last_taken (v ∷ vs) (suc i) h = let l = last_taken vs i (omega (arith, h)) in (l.0, ap (λ x. v ∷ x) l.1)

pub taken_length : (vs : List ValueView) (i : ℕ) → i ≤ length vs → length (take i vs) ≡ i
taken_length vs zero h = refl
taken_length [] (suc i) h = absurd (omega (arith, h))
taken_length (v ∷ vs) (suc i) h = ap suc (taken_length vs i (omega (arith, h)))

pub taking_begins : (vs ws : List ValueView) (n : ℕ) → n ≡ length vs → RemovesLast vs ws (take n vs) []
taking_begins vs ws n e =
    subst (λ l. RemovesLast vs ws l []) (sym (take_all n vs (omega (arith, e)))) (last_begins vs ws)

pub taking_next : (vs ws : List ValueView) (n i : ℕ) (k : List ℕ) (xs : List Action) → RemovesLast vs ws (take n vs) xs → n ≡ suc i
    → n ≤ length vs → length ws ≤ i → index_of k ≡ Some i → RemovesLast vs ws (take i vs) (xs ++ op.remove (k ∷ []) ∷ [])
taking_next vs ws n i k xs h e among long named =
    let last = last_taken vs i (omega (arith, e, among)) in
    last_next vs ws (take n vs) (take i vs) last.0 k i xs h (ap (λ m. take m vs) e ∙ last.1)
    (taken_length vs i (omega (arith, e, among))) long named

-- ---- the items of the new array

-- the token is the index of an item that is passed or removed
abbrev pub IsTurned : ℕ → ℕ → List ℕ → Type 0
IsTurned i count k = (j : ℕ) × (index_of k ≡ Some j) × ((j < i) ⊎ (count ≤ j))

-- The actions lead to the items of the new array that are passed, and after them those that are left of the old one.
pub record ItemsPassed (r : ℕ) (vs ws : List ValueView) (i : ℕ) (left : List ValueView) (xs : List Action) : Type 0 where
  pub done : List ValueView
  pub front : List ValueView
  pub gone : List ValueView
  pub new : ws ≡ done ++ drop i ws
  pub old : vs ≡ front ++ (left ++ gone)
  pub counted : length done ≡ i
  pub passed : length front ≤ i
  pub exact : (left ≡ []) ⊎ (length front ≡ i)
  pub short : length left ≤ length (drop i ws)
  pub full : (gone ≡ []) ⊎ (length left ≡ length (drop i ws))
  pub begun : Begun r (array (trees_of vs)) (array (trees_of ws)) (array (trees_of (done ++ left))) (IsTurned i (length ws)) xs

pub passing_begins : (r : ℕ) (vs ws left : List ValueView) (xs : List Action) → RemoveItems vs ws xs left → ItemsPassed r vs ws 0 left xs
passing_begins r vs ws left xs h = record {
  done = [];
  front = [];
  gone = h.gone;
  new = refl;
  old = h.split;
  counted = refl;
  passed = omega arith;
  exact = inr refl;
  short = h.short;
  full = h.full;
  begun =
      begun_same (IsPast (length ws)) (IsTurned 0 (length ws)) r (array (trees_of vs)) (array (trees_of ws))
      (array (trees_of left)) xs (λ k p. (p.0, p.1, inr p.2)) (h.begun r);
}

-- the array with x at the index
abbrev set_item : List ValueView → ℕ → Tree → Tree
set_item us i x = array (with_nth (trees_of us) i x)

module _ (r : ℕ) (vs ws : List ValueView) (i : ℕ) (w : ValueView) (more : List ValueView) (here : drop i ws ≡ w ∷ more)
    (next : drop (i + 1) ws ≡ more) (among : i < length ws) where
  no_other : (q : List ℕ) → IsTurned i (length ws) q → index_of q ≡ Some i → ⊥
  no_other q p n =
      let same : p.0 ≡ i = one_index q p.0 i p.1 n in
      ⊎_elim (λ l. omega (arith, same, l)) (λ l. omega (arith, same, l, among)) p.2

  weaker : (q : List ℕ) → IsTurned i (length ws) q → IsTurned (i + 1) (length ws) q
  weaker q p = (p.0, p.1, ⊎_elim (λ l. inl (omega (arith, l))) (λ l. inr l) p.2)

  own : (q : List ℕ) → index_of q ≡ Some i → IsTurned (i + 1) (length ws) q
  own q n = (i, n, inl (omega arith))

  new_here : (left : List ValueView) (xs : List Action) (h : ItemsPassed r vs ws i left xs) → ws ≡ h.done ++ w ∷ more
  new_here left xs h = h.new ∙ ap (λ x. h.done ++ x) here

  new_next : (left : List ValueView) (xs : List Action) (h : ItemsPassed r vs ws i left xs)
      → ws ≡ (h.done ++ w ∷ []) ++ drop (i + 1) ws
  new_next left xs h =
      new_here left xs h ∙ (sym (append_assoc h.done (w ∷ []) more) ∙ ap (λ x. (h.done ++ w ∷ []) ++ x) (sym next))

  one_longer : (ds : List ValueView) (v : ValueView) → length ds ≡ i → length (ds ++ v ∷ []) ≡ i + 1
  one_longer ds v e = length-append ds (v ∷ []) ∙ omega (arith, e)

  -- an item of both arrays is changed
  pub passing_changes : (p : ValueView) (others : List ValueView) (xs inner ys : List Action) → ItemsPassed r vs ws i (p ∷ others) xs
      → Changes r (tree_of p) (tree_of w) inner → AreBelow (λ q. index_of q ≡ Some i) inner ys
      → ItemsPassed r vs ws (i + 1) others (xs ++ ys)
  passing_changes p others xs inner ys h c below = record {
    done = h.done ++ w ∷ [];
    front = h.front ++ p ∷ [];
    gone = h.gone;
    new = new_next (p ∷ others) xs h;
    old = h.old ∙ sym (append_assoc h.front (p ∷ []) (others ++ h.gone));
    counted = one_longer h.done w h.counted;
    passed = omega (arith, one_longer h.front p at);
    exact = inr (one_longer h.front p at);
    short = omega (arith, h.short, fewer);
    full = ⊎_elim (λ e. inl e) (λ e. inr (omega (arith, e, fewer))) h.full;
    begun =
        subst (λ z. Begun r (array (trees_of vs)) (array (trees_of ws)) z (IsTurned (i + 1) (length ws)) (xs ++ ys)) after
        (part_more (λ q. index_of q ≡ Some i) r (array (trees_of vs)) (array (trees_of ws)) (tree_of p) (tree_of w)
        (λ q e. step_at vs q i e ∙ (ap (λ x. nth (trees_of x) i) h.old ∙ nth_at h.front (others ++ h.gone) p i at))
        (λ q e. step_at ws q i e ∙ (ap (λ x. nth (trees_of x) i) (new_here (p ∷ others) xs h) ∙ nth_at h.done more w i h.counted))
        (set_item (h.done ++ p ∷ others) i)
        (λ q x e. ap (item_of (with_nth (trees_of (h.done ++ p ∷ others)) i x)) e
        ∙ nth_with_nth (trees_of (h.done ++ p ∷ others)) i x (tree_of p) there)
        (λ q x y e. ap (λ o. array (with_item_of (with_nth (trees_of (h.done ++ p ∷ others)) i x) o y)) e
        ∙ ap array (with_nth_again (trees_of (h.done ++ p ∷ others)) i x y))
        (IsTurned i (length ws)) (IsTurned (i + 1) (length ws)) xs ys inner no_other weaker own
        (subst (λ z. Begun r (array (trees_of vs)) (array (trees_of ws)) z (IsTurned i (length ws)) xs) (sym back) h.begun) c below);
  }
    where
      some : p ∷ others ≡ [] → ⊥
      some e = cc

      at : length h.front ≡ i
      at = ⊎_elim (λ e. absurd (some e)) (λ e. e) h.exact

      there : nth (trees_of (h.done ++ p ∷ others)) i ≡ Some (tree_of p)
      there = nth_at h.done others p i h.counted

      back : set_item (h.done ++ p ∷ others) i (tree_of p) ≡ array (trees_of (h.done ++ p ∷ others))
      back = ap array (with_nth_back (trees_of (h.done ++ p ∷ others)) i (tree_of p) there)

      after : set_item (h.done ++ p ∷ others) i (tree_of w) ≡ array (trees_of ((h.done ++ w ∷ []) ++ others))
      after =
          ap array (set_at h.done others p w i h.counted)
          ∙ ap (λ x. array (trees_of x)) (sym (append_assoc h.done (w ∷ []) others))

      fewer : length (drop i ws) ≡ suc (length (drop (i + 1) ws))
      fewer = ap length here ∙ ap (λ x. suc (length x)) (sym next)

  -- one that the new array has alone is added
  pub passing_adds : (k : List ℕ) (xs : List Action) → index_of k ≡ Some i → ItemsPassed r vs ws i [] xs
      → ItemsPassed r vs ws (i + 1) [] (xs ++ op.add (k ∷ []) (tree_of w) ∷ [])
  passing_adds k xs named h = record {
    done = h.done ++ w ∷ [];
    front = h.front;
    gone = [];
    new = new_next [] xs h;
    old = all;
    counted = one_longer h.done w h.counted;
    passed = omega (arith, h.passed);
    exact = inl refl;
    short = omega arith;
    full = inl refl;
    begun =
        subst (λ z. Begun r (array (trees_of vs)) (array (trees_of ws)) (array (trees_of z)) (IsTurned (i + 1) (length ws))
        (xs ++ op.add (k ∷ []) (tree_of w) ∷ [])) (sym (append-nil (h.done ++ w ∷ [])))
        (add_more (IsTurned i (length ws)) (λ q. index_of q ≡ Some i) (IsTurned (i + 1) (length ws)) no_other weaker own r
        (array (trees_of vs)) (array (trees_of ws)) (array (trees_of h.done)) (array (trees_of (h.done ++ w ∷ []))) k named
        (tree_of w) xs
        (subst (λ z. Begun r (array (trees_of vs)) (array (trees_of ws)) (array (trees_of z)) (IsTurned i (length ws)) xs)
        (append-nil h.done) h.begun)
        (item_added h.done w k i h.counted named)
        (alone_new r (array (trees_of vs)) (array (trees_of ws)) (tree_of w) k (step_at vs k i named ∙ past_view vs i end)
        (step_at ws k i named ∙ (ap (λ x. nth (trees_of x) i) (new_here [] xs h) ∙ nth_at h.done more w i h.counted))));
  }
    where
      none_gone : h.gone ≡ []
      none_gone = ⊎_elim (λ e. e) (λ e. absurd (no e)) h.full
        where
          no : length {A = ValueView} [] ≡ length (drop i ws) → ⊥
          no e = let whole = ap length here in omega (arith, e, whole)

      all : vs ≡ h.front ++ ([] ++ [])
      all = h.old ∙ ap (λ x. h.front ++ x) none_gone

      end : length vs ≤ i
      end = let whole = ap length (all ∙ append-nil h.front) in omega (arith, whole, h.passed)

pub passing_ends : (r : ℕ) (vs ws left : List ValueView) (i : ℕ) (xs : List Action) → length ws ≤ i → drop i ws ≡ []
    → ItemsPassed r vs ws i left xs → Changes (suc r) (array (trees_of vs)) (array (trees_of ws)) xs
passing_ends r vs ws left i xs long end h =
    begun_ends (IsTurned i (length ws)) r (array (trees_of vs)) (array (trees_of ws)) xs
    (subst (λ z. Begun r (array (trees_of vs)) (array (trees_of ws)) (array (trees_of z)) (IsTurned i (length ws)) xs) all h.begun)
  where
    none : left ≡ []
    none = nil_from_length left (let whole = ap length end in omega (arith, whole, h.short))

    all : h.done ++ left ≡ ws
    all = ap (λ x. h.done ++ x) (none ∙ sym end) ∙ sym h.new
