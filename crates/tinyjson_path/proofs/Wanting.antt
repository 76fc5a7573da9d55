-- The children that are wanted. Those that are left out select nothing with their descendants.
use Rattle.std.proofs.Common.{◌≡◌, ◌≤◌, ◌+◌, ℕ, ℤ, Bool, true, false, cond, List, [], ◌∷◌, ◌++◌, map, length, Option, None, Some}
use Rattle.std.proofs.Common.{refl, sym, ap, ◌∙◌, subst, arith, append_assoc, append-nil}
use Rattle.std.proofs.lemmas.List.{length-append}
use Rattle.tinyjson.specs.Tree.{Tree, array, object}
use Rattle.tinyjson_path.specs.Nodes.{Step, Part, below, children, visited}
use Rattle.tinyjson_path.specs.Patterns.{judged}
use Rattle.tinyjson_path.specs.Queries.{Selects, Finds, Yields, Holds, union, kept, segment_step, selector_step, expression_step}
use Rattle.tinyjson_path.specs.Queries.{comparable_step, function_step, filter_query_step, selector_parts, selected_by}
use Rattle.tinyjson_path.specs.Selecting.{from_each, by_name, by_index, by_slice, item_below, items_in}
use Rattle.tinyjson_path.specs.Slices.{place_of}
use Rattle.tinyjson_path.specs.Waiting.{is_container, wants}
use Rattle.tinyjson_path.specs.declared.children.Wanted.TheVariants.{All, Containers}
use Rattle.tinyjson_path.proofs.Parts.{visited_of, visited_is}
use Rattle.tinyjson_path_query.specs.declared.query.Selector.{Selector, Selector-F, fold_out-Selector}

-- ---- a loop over parts, of which some are kept

pub kept_append : (f : Tree → Bool) (ps qs : List Part) → kept f (ps ++ qs) ≡ kept f ps ++ kept f qs
kept_append f [] qs = refl
kept_append f (p ∷ ps) qs = step (f p.tree) (kept_append f ps qs)
  where
    step : (b : Bool) → kept f (ps ++ qs) ≡ kept f ps ++ kept f qs
        → cond b (p ∷ kept f (ps ++ qs)) (kept f (ps ++ qs)) ≡ cond b (p ∷ kept f ps) (kept f ps) ++ kept f qs
    step true rest = ap (λ z. p ∷ z) rest
    step false rest = rest

pub keep_step : (f : Tree → Bool) (acc more goal one rest all : List Part) → one ++ rest ≡ all → more ≡ acc ++ kept f one
    → acc ++ kept f all ≡ goal → more ++ kept f rest ≡ goal
keep_step f acc more goal one rest all e m h =
    ap (λ z. z ++ kept f rest) m
    ∙ (append_assoc acc (kept f one) (kept f rest) ∙ (ap (λ z. acc ++ z) (sym (kept_append f one rest) ∙ ap (kept f) e) ∙ h))

pub keep_last : (f : Tree → Bool) (acc goal all : List Part) → [] ≡ all → acc ++ kept f all ≡ goal → acc ≡ goal
keep_last f acc goal all e h = sym (append-nil acc) ∙ (ap (λ z. acc ++ kept f z) e ∙ h)

pub kept_all : (ps : List Part) → kept (wants All) ps ≡ ps
kept_all [] = refl
kept_all (p ∷ ps) = ap (λ z. p ∷ z) (kept_all ps)

pub kept_one : (f : Tree → Bool) (path : List Step) (s : Step) (t : Tree) (b : Bool) → f t ≡ b
    → kept f (below path s t ∷ []) ≡ cond b (below path s t ∷ []) []
kept_one f path s t b e = ap (λ c. cond c (below path s t ∷ []) []) e

-- ---- what scalars select

children_of_scalar : (path : List Step) (t : Tree) → is_container t ≡ false → children path t ≡ []
children_of_scalar path (array ts) h = absurd cc
children_of_scalar path (object ms) h = absurd cc
children_of_scalar path _ h = refl

name_of_scalar : (path : List Step) (k : List ℕ) (t : Tree) → is_container t ≡ false → by_name path k t ≡ []
name_of_scalar path k (array ts) h = absurd cc
name_of_scalar path k (object ms) h = absurd cc
name_of_scalar path k _ h = refl

place_in_scalar : (path : List Step) (o : Option ℕ) (t : Tree) → is_container t ≡ false → item_below path t o ≡ []
place_in_scalar path None t h = refl
place_in_scalar path (Some i) (array ts) h = absurd cc
place_in_scalar path (Some i) (object ms) h = absurd cc
place_in_scalar path (Some i) _ h = refl

slice_of_scalar : (path : List Step) (start end step : Option ℤ) (t : Tree) → is_container t ≡ false → by_slice path start end step t ≡ []
slice_of_scalar path start end step (array ts) h = absurd cc
slice_of_scalar path start end step (object ms) h = absurd cc
slice_of_scalar path start end step _ h = refl

abbrev LeavesScalars : Selects → Type 0
LeavesScalars f = (root : Tree) (p : Part) → is_container p.tree ≡ false → f root p ≡ []

selector_layer : (y : Selector-F Yields Holds Yields Selects Selects Finds) → LeavesScalars (selector_step y)
selector_layer (Selector-F.Name k) root p h = name_of_scalar p.path _ p.tree h
selector_layer Selector-F.Wildcard root p h = children_of_scalar p.path p.tree h
selector_layer (Selector-F.Index z) root p h = place_in_scalar p.path (place_of z (items_in p.tree)) p.tree h
selector_layer (Selector-F.Slice start end step) root p h = slice_of_scalar p.path start end step p.tree h
selector_layer (Selector-F.Filter holds) root p h = ap (kept (holds root)) (children_of_scalar p.path p.tree h)

selector_leaves : (s : Selector) → LeavesScalars (selector_parts s)
selector_leaves s =
    subst LeavesScalars
    (sym (fold_out-Selector Yields Holds Yields Selects Selects Finds comparable_step (expression_step judged) function_step segment_step
    selector_step filter_query_step s))
    (selector_layer _)

selectors_leave : (ss : List Selector) → LeavesScalars (selected_by ss)
selectors_leave [] root p h = refl
selectors_leave (s ∷ ss) root p h =
    ap (λ z. z ++ selected_by ss root p) (selector_leaves s root p h) ∙ selectors_leave ss root p h

-- a scalar is its only descendant
pub visited_scalar : (ss : List Selector) (root : Tree) (p : Part) → is_container p.tree ≡ false
    → from_each (selected_by ss root) (visited_of p) ≡ []
visited_scalar ss root p h =
    ap (from_each (selected_by ss root))
    (visited_is p.path p.tree ∙ ap (λ ps. p ∷ from_each visited_of ps) (children_of_scalar p.path p.tree h))
    ∙ (append-nil (selected_by ss root p) ∙ selectors_leave ss root p h)

-- ---- containers alone

pub each_container : (f : Part → List Part) → ((p : Part) → is_container p.tree ≡ false → f p ≡ []) → (ps : List Part)
    → from_each f (kept (wants Containers) ps) ≡ from_each f ps
each_container f none [] = refl
each_container f none (p ∷ ps) = step (is_container p.tree) refl (each_container f none ps)
  where
    step : (b : Bool) → is_container p.tree ≡ b → from_each f (kept (wants Containers) ps) ≡ from_each f ps
        → from_each f (cond b (p ∷ kept (wants Containers) ps) (kept (wants Containers) ps)) ≡ f p ++ from_each f ps
    step true e rest = ap (λ z. f p ++ z) rest
    step false e rest = rest ∙ ap (λ z. z ++ from_each f ps) (sym (none p e))

pub fewer_kept : (f : Part → List Part) (keeps : Tree → Bool) (ps : List Part)
    → length (from_each f (kept keeps ps)) ≤ length (from_each f ps)
fewer_kept f keeps [] = omega arith
fewer_kept f keeps (p ∷ ps) = step (keeps p.tree) (fewer_kept f keeps ps)
  where
    all : length (f p ++ from_each f ps) ≡ length (f p) + length (from_each f ps)
    all = length-append (f p) (from_each f ps)

    step : (b : Bool) → length (from_each f (kept keeps ps)) ≤ length (from_each f ps)
        → length (from_each f (cond b (p ∷ kept keeps ps) (kept keeps ps))) ≤ length (f p ++ from_each f ps)
    step true less =
        let some : length (f p ++ from_each f (kept keeps ps)) ≡ length (f p) + length (from_each f (kept keeps ps))
        = length-append (f p) (from_each f (kept keeps ps)) in
        omega (arith, less, all, some)
    step false less = omega (arith, less, all)
