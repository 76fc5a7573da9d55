-- Loops over the items of an array, by what is left to do.
use Rattle.std.proofs.Common.{◌≡◌, ℕ, zero, suc, ◌+◌, ◌≤◌, Bool, true, false, cond, List, [], ◌∷◌, ◌++◌, reverse}
use Rattle.std.proofs.Common.{Option, Some, None, refl, sym, ap, ◌∙◌, arith, append_assoc, append-nil}
use Rattle.std.proofs.lemmas.List.{reverse-append}
use Rattle.tinyjson.specs.Index.{nth, tree_at, item_count}
use Rattle.tinyjson.specs.Tree.{Tree, null, boolean, number, string, array, object, Items, no_items, item}
use Rattle.tinyjson_document.specs.Parts.{items_in as listed_items, size}
use Rattle.tinyjson_path.specs.Nodes.{Step, at_index, Part, items_from}
use Rattle.tinyjson_path.specs.Selecting.{one_below, taken}

-- ---- the items from an index on, and those before it

abbrev pub dropped : ℕ → Items → Items
dropped zero ts = ts
dropped (suc i) no_items = no_items
dropped (suc i) (item t ts) = dropped i ts

abbrev pub front : ℕ → Items → Items
front zero ts = no_items
front (suc i) no_items = no_items
front (suc i) (item t ts) = item t (front i ts)

dropped_past : (ts : Items) (i : ℕ) → item_count ts ≤ i → dropped i ts ≡ no_items
dropped_past no_items zero h = refl
dropped_past no_items (suc i) h = refl
dropped_past (item t ts) zero h = absurd (omega (arith, h))
dropped_past (item t ts) (suc i) h = dropped_past ts i (omega (arith, h))

front_past : (ts : Items) (i : ℕ) → item_count ts ≤ i → front i ts ≡ ts
front_past no_items zero h = refl
front_past no_items (suc i) h = refl
front_past (item t ts) zero h = absurd (omega (arith, h))
front_past (item t ts) (suc i) h = ap (item t) (front_past ts i (omega (arith, h)))

counted : (t : Tree) → item_count (listed_items t) ≤ size t
counted (array ts) = omega arith
counted (object ms) = omega arith
counted _ = omega arith

at_item : (t : Tree) (i : ℕ) → tree_at t i ≡ nth (listed_items t) i
at_item (array ts) i = refl
at_item _ i = refl

module _ (path : List Step) where
  items_step : (k i : ℕ) (ts : Items)
      → items_from path k (dropped i ts) ≡ one_below path (at_index k) (nth ts i) ++ items_from path (k + 1) (dropped (suc i) ts)
  items_step k zero no_items = refl
  items_step k zero (item t ts) = refl
  items_step k (suc i) no_items = refl
  items_step k (suc i) (item t ts) = items_step k i ts

  module _ (t : Tree) where
    abbrev pub one_at : ℕ → List Part
    one_at i = one_below path (at_index i) (tree_at t i)

    pub step_items : (acc more goal : List Part) (i : ℕ) → more ≡ acc ++ one_at i
        → acc ++ items_from path i (dropped i (listed_items t)) ≡ goal
        → more ++ items_from path (i + 1) (dropped (i + 1) (listed_items t)) ≡ goal
    step_items acc more goal i m h =
        let next : i + 1 ≡ suc i = omega arith in
        ap (λ z. z ++ items_from path (i + 1) (dropped (i + 1) (listed_items t))) m
        ∙ (append_assoc acc (one_at i) (items_from path (i + 1) (dropped (i + 1) (listed_items t)))
        ∙ (ap (λ j. acc ++ (one_at i ++ items_from path (i + 1) (dropped j (listed_items t)))) next
        ∙ (ap (λ o. acc ++ (one_below path (at_index i) o ++ items_from path (i + 1) (dropped (suc i) (listed_items t)))) (at_item t i)
        ∙ (ap (λ z. acc ++ z) (sym (items_step i i (listed_items t))) ∙ h))))

    pub last_items : (acc goal : List Part) (i : ℕ) → size t ≤ i → acc ++ items_from path i (dropped i (listed_items t)) ≡ goal → acc ≡ goal
    last_items acc goal i l h =
        let few : item_count (listed_items t) ≤ size t = counted t in
        sym (append-nil acc)
        ∙ (ap (λ ts. acc ++ items_from path i ts) (sym (dropped_past (listed_items t) i (omega (arith, few, l)))) ∙ h)

  module _ (f : ℕ → Bool) where
    none_taken : (b : Bool) (ps : List Part) → ps ≡ cond b ps ps
    none_taken true ps = refl
    none_taken false ps = refl

    taken_step : (k i : ℕ) (ts : Items)
        → taken f path k (dropped i ts)
        ≡ cond (f k) (one_below path (at_index k) (nth ts i)) [] ++ taken f path (k + 1) (dropped (suc i) ts)
    taken_step k zero no_items = none_taken (f k) [] ∙ sym (append-nil (cond (f k) [] []))
    taken_step k zero (item t ts) = refl
    taken_step k (suc i) no_items = none_taken (f k) [] ∙ sym (append-nil (cond (f k) [] []))
    taken_step k (suc i) (item t ts) = taken_step k i ts

    front_step : (k i : ℕ) (ts : Items)
        → taken f path k (front (suc i) ts)
        ≡ taken f path k (front i ts) ++ cond (f (k + i)) (one_below path (at_index (k + i)) (nth ts i)) []
    front_step k zero no_items = none_taken (f (k + 0)) []
    front_step k (suc i) no_items = none_taken (f (k + suc i)) []
    front_step k zero (item t ts) =
        let same : k ≡ k + 0 = omega arith in
        append-nil (cond (f k) (one_below path (at_index k) (Some t)) [])
        ∙ ap (λ j. cond (f j) (one_below path (at_index j) (Some t)) []) same
    front_step k (suc i) (item t ts) =
        let same : k + 1 + i ≡ k + suc i = omega arith in
        let this : List Part = cond (f k) (one_below path (at_index k) (Some t)) [] in
        ap (λ z. this ++ z) (front_step (k + 1) i ts)
        ∙ (ap (λ j. this ++ (taken f path (k + 1) (front i ts) ++ cond (f j) (one_below path (at_index j) (nth ts i)) [])) same
        ∙ sym (append_assoc this (taken f path (k + 1) (front i ts))
        (cond (f (k + suc i)) (one_below path (at_index (k + suc i)) (nth ts i)) [])))

    one_reversed : (b : Bool) (i : ℕ) (o : Option Tree)
        → reverse (cond b (one_below path (at_index i) o) []) ≡ cond b (one_below path (at_index i) o) []
    one_reversed false i o = refl
    one_reversed true i None = refl
    one_reversed true i (Some t) = refl

    module _ (t : Tree) where
      abbrev pub taken_at : Bool → ℕ → List Part
      taken_at b i = cond b (one_below path (at_index i) (tree_at t i)) []

      abbrev pub taken_left : ℕ → List Part
      taken_left i = taken f path i (dropped i (listed_items t))

      step_up : (acc more goal : List Part) (i : ℕ) → more ≡ acc ++ taken_at (f i) i → acc ++ taken_left i ≡ goal
          → more ++ taken_left (i + 1) ≡ goal
      step_up acc more goal i m h =
          let next : i + 1 ≡ suc i = omega arith in
          ap (λ z. z ++ taken_left (i + 1)) m
          ∙ (append_assoc acc (taken_at (f i) i) (taken_left (i + 1))
          ∙ (ap (λ j. acc ++ (taken_at (f i) i ++ taken f path (i + 1) (dropped j (listed_items t)))) next
          ∙ (ap (λ o. acc ++ (cond (f i) (one_below path (at_index i) o) []
          ++ taken f path (i + 1) (dropped (suc i) (listed_items t)))) (at_item t i)
          ∙ (ap (λ z. acc ++ z) (sym (taken_step i i (listed_items t))) ∙ h))))

      pub up_taken : (acc more goal : List Part) (i : ℕ) → f i ≡ true → more ≡ acc ++ one_below path (at_index i) (tree_at t i)
          → acc ++ taken_left i ≡ goal → more ++ taken_left (i + 1) ≡ goal
      up_taken acc more goal i e m h = step_up acc more goal i (m ∙ ap (λ b. acc ++ taken_at b i) (sym e)) h

      pub up_passed : (acc goal : List Part) (i : ℕ) → f i ≡ false → acc ++ taken_left i ≡ goal → acc ++ taken_left (i + 1) ≡ goal
      up_passed acc goal i e h = step_up acc acc goal i (sym (append-nil acc) ∙ ap (λ b. acc ++ taken_at b i) (sym e)) h

      pub last_up : (acc goal : List Part) (i : ℕ) → size t ≤ i → acc ++ taken_left i ≡ goal → acc ≡ goal
      last_up acc goal i l h =
          let few : item_count (listed_items t) ≤ size t = counted t in
          sym (append-nil acc)
          ∙ (ap (λ ts. acc ++ taken f path i ts) (sym (dropped_past (listed_items t) i (omega (arith, few, l)))) ∙ h)

      -- from the last item to the first
      abbrev pub taken_down : ℕ → List Part
      taken_down i = reverse (taken f path 0 (front i (listed_items t)))

      pub first_down : taken_down (size t) ≡ reverse (taken f path 0 (listed_items t))
      first_down = ap (λ ts. reverse (taken f path 0 ts)) (front_past (listed_items t) (size t) (counted t))

      step_down : (acc more goal : List Part) (i j : ℕ) → j ≡ suc i → more ≡ acc ++ taken_at (f i) i → acc ++ taken_down j ≡ goal
          → more ++ taken_down i ≡ goal
      step_down acc more goal i j n m h =
          let before : List Part = taken f path 0 (front i (listed_items t)) in
          let this : List Part = cond (f (0 + i)) (one_below path (at_index (0 + i)) (nth (listed_items t) i)) [] in
          let same : 0 + i ≡ i = omega arith in
          ap (λ z. z ++ taken_down i) m
          ∙ (append_assoc acc (taken_at (f i) i) (taken_down i)
          ∙ (ap (λ o. acc ++ (cond (f i) (one_below path (at_index i) o) [] ++ taken_down i)) (at_item t i)
          ∙ (ap (λ k. acc ++ (cond (f k) (one_below path (at_index k) (nth (listed_items t) i)) [] ++ taken_down i)) (sym same)
          ∙ (ap (λ z. acc ++ (z ++ taken_down i)) (sym (one_reversed (f (0 + i)) (0 + i) (nth (listed_items t) i)))
          ∙ (ap (λ z. acc ++ z) (sym (reverse-append before this))
          ∙ (ap (λ z. acc ++ reverse z) (sym (front_step 0 i (listed_items t)))
          ∙ (ap (λ k. acc ++ taken_down k) (sym n) ∙ h)))))))

      pub down_taken : (acc more goal : List Part) (i j : ℕ) → j ≡ suc i → f i ≡ true
          → more ≡ acc ++ one_below path (at_index i) (tree_at t i) → acc ++ taken_down j ≡ goal → more ++ taken_down i ≡ goal
      down_taken acc more goal i j n e m h = step_down acc more goal i j n (m ∙ ap (λ b. acc ++ taken_at b i) (sym e)) h

      pub down_passed : (acc goal : List Part) (i j : ℕ) → j ≡ suc i → f i ≡ false → acc ++ taken_down j ≡ goal → acc ++ taken_down i ≡ goal
      down_passed acc goal i j n e h = step_down acc acc goal i j n (sym (append-nil acc) ∙ ap (λ b. acc ++ taken_at b i) (sym e)) h
