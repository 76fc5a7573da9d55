-- What is selected from a part are children of it, each by its last step.
use Rattle.std.proofs.Common.{◌≡◌, ℕ, suc, ◌+◌, ℤ, pos, negsuc, Bool, true, false, cond, List, [], ◌∷◌, ◌++◌, reverse}
use Rattle.std.proofs.Common.{Option, Some, None, refl, sym, ap, ◌∙◌, subst, arith, rules, bytes_eq, nat_eq, Bor, Global}
use Rattle.std.proofs.lemmas.Bool.Decides.{nat_tests}
use Rattle.std.proofs.lemmas.List.{reverse-append, same_from_push}
use Rattle.std.proofs.lemmas.Slice.Eq.{bytes_eq-Decides}
use Rattle.tinyjson.proofs.Callers.{find_below, found_first, some_none}
use Rattle.tinyjson.specs.Index.{nth, tree_at, tree_at_key}
use Rattle.tinyjson.specs.Soundness.{IsSorted}
use Rattle.tinyjson.specs.Tree.{Tree, array, object, Items, no_items, item, Members, no_members}
use Rattle.tinyjson.specs.Tree.{member, find}
use Rattle.tinyjson_document.specs.Parts.{members_in}
use Rattle.tinyjson_path.specs.Nodes.{Step, at_key, at_index, Part, below, items_from, members_at, children, path_view}
use Rattle.tinyjson_path.specs.Patterns.{judged}
use Rattle.tinyjson_path.specs.Queries.{Selects, Finds, Yields, Holds, kept, segment_step, selector_step, expression_step}
use Rattle.tinyjson_path.specs.Queries.{comparable_step, function_step, filter_query_step, selector_parts, selected_by}
use Rattle.tinyjson_path.specs.Selecting.{one_below, by_slice, by_steps, item_below, items_in, taken, up}
use Rattle.tinyjson_path.specs.Slices.{place_of, clamped, clamped_after, bound_or, is_up, is_down}
use Rattle.tinyjson_path.specs.Waiting.{at_step, IsChild, AreChildren, EndAlike}
use Rattle.std.specs.Str.{chars}
use Rattle.std.specs.declared.rc.Rc.{Rc}
use Rattle.tinyjson_path.specs.declared.node.Location.{Location, the_lemmas}
use Rattle.tinyjson_path.specs.declared.node.Location.TheVariants as location
use Rattle.tinyjson_path_query.specs.declared.query.Selector.{Selector, Selector-F, fold_out-Selector}

-- ---- lists of children

are_both : (p : Part) (qs rs : List Part) → AreChildren p qs → AreChildren p rs → AreChildren p (qs ++ rs)
are_both p [] rs h k = k
are_both p (q ∷ qs) rs h k = (h.0, are_both p qs rs h.1 k)

pub are_first : (p : Part) (qs rs : List Part) → AreChildren p (qs ++ rs) → AreChildren p qs
are_first p [] rs h = tt
are_first p (q ∷ qs) rs h = (h.0, are_first p qs rs h.1)

pub are_last : (p : Part) (qs rs : List Part) → AreChildren p (qs ++ rs) → AreChildren p rs
are_last p [] rs h = h
are_last p (q ∷ qs) rs h = are_last p qs rs h.1

are_chosen : (p : Part) (b : Bool) (qs rs : List Part) → AreChildren p qs → AreChildren p rs → AreChildren p (cond b qs rs)
are_chosen p true qs rs h k = h
are_chosen p false qs rs h k = k

are_reversed : (p : Part) (qs : List Part) → AreChildren p qs → AreChildren p (reverse qs)
are_reversed p [] h = tt
are_reversed p (q ∷ qs) h =
    subst (AreChildren p) (sym (reverse-append (q ∷ []) qs)) (are_both p (reverse qs) (q ∷ []) (are_reversed p qs h.1) (h.0, tt))

pub are_kept : (p : Part) (f : Tree → Bool) (qs : List Part) → AreChildren p qs → AreChildren p (kept f qs)
are_kept p f [] h = tt
are_kept p f (q ∷ qs) h = are_chosen p (f q.tree) (q ∷ kept f qs) (kept f qs) (h.0, are_kept p f qs h.1) (are_kept p f qs h.1)

-- ---- items

abbrev IsFrom : Part → ℕ → Items → Type 0
IsFrom p i ts = (j : ℕ) → tree_at p.tree (i + j) ≡ nth ts j

from_next : (p : Part) (i : ℕ) (t : Tree) (ts : Items) → IsFrom p i (item t ts) → IsFrom p (i + 1) ts
from_next p i t ts k j = let same : (i + 1) + j ≡ i + suc j = omega arith in ap (tree_at p.tree) same ∙ k (suc j)

from_here : (p : Part) (i : ℕ) (t : Tree) (ts : Items) → IsFrom p i (item t ts) → IsChild p (below p.path (at_index i) t)
from_here p i t ts k = let same : i ≡ i + 0 = omega arith in (at_index i, refl, ap (tree_at p.tree) same ∙ k 0)

are_items : (p : Part) (i : ℕ) (ts : Items) → IsFrom p i ts → AreChildren p (items_from p.path i ts)
are_items p i no_items k = tt
are_items p i (item t ts) k = (from_here p i t ts k, are_items p (i + 1) ts (from_next p i t ts k))

are_taken : (p : Part) (f : ℕ → Bool) (i : ℕ) (ts : Items) → IsFrom p i ts → AreChildren p (taken f p.path i ts)
are_taken p f i no_items k = tt
are_taken p f i (item t ts) k =
    are_both p (cond (f i) (below p.path (at_index i) t ∷ []) []) (taken f p.path (i + 1) ts)
    (are_chosen p (f i) (below p.path (at_index i) t ∷ []) [] (from_here p i t ts k, tt) tt)
    (are_taken p f (i + 1) ts (from_next p i t ts k))

from_first : (path : List Step) (ts : Items) → IsFrom (record { path = path; tree = array ts }) 0 ts
from_first path ts j = let same : 0 + j ≡ j = omega arith in ap (nth ts) same

-- ---- members

abbrev HasFound : Part → Members → Type 0
HasFound p ms = (k : List ℕ) (t : Tree) → find k ms ≡ Some t → tree_at_key p.tree k ≡ Some t

found_next : (p : Part) (k : List ℕ) (t : Tree) (ms : Members) → IsSorted (member k t ms) → HasFound p (member k t ms) → HasFound p ms
found_next p k t ms s g l u h = g l u (by (bytes_eq l k) refl)
  where
    by : (b : Bool) → bytes_eq l k ≡ b → find l (member k t ms) ≡ Some u
    by true d =
        let key : l ≡ k = (bytes_eq-Decides l k).0 d in
        absurd (some_none u (sym h ∙ (ap (λ x. find x ms) key ∙ find_below k ms s.0 s.1)))
    by false d = ap (λ b. cond b (Some t) (find l ms)) d ∙ h

are_members : (p : Part) (ms : Members) → IsSorted ms → HasFound p ms → AreChildren p (members_at p.path ms)
are_members p no_members s g = tt
are_members p (member k t ms) s g = (
  (at_key k, refl, g k t (found_first k t ms)),
  are_members p ms s.1 (found_next p k t ms s g),
)

pub are_children : (path : List Step) (t : Tree) → IsSorted (members_in t)
    → AreChildren (record { path = path; tree = t }) (children path t)
are_children path (array ts) s = are_items (record { path = path; tree = array ts }) 0 ts (from_first path ts)
are_children path (object ms) s = are_members (record { path = path; tree = object ms }) ms s (λ k t h. h)
are_children path _ s = tt

-- ---- what selectors select

is_one : (p : Part) (s : Step) (o : Option Tree) → at_step s p.tree ≡ o → AreChildren p (one_below p.path s o)
is_one p s None e = tt
is_one p s (Some t) e = ((s, refl, e), tt)

is_item : (p : Part) (o : Option ℕ) → AreChildren p (item_below p.path p.tree o)
is_item p None = tt
is_item p (Some i) = is_one p (at_index i) (tree_at p.tree i) refl

are_by_steps : (p : Part) (start end step : Option ℤ) (ts : Items) (len : ℕ) → IsFrom p 0 ts
    → AreChildren p (by_steps p.path start end step ts len)
are_by_steps p start end None ts len k = are_taken p (is_up (bound_or clamped start len 0) (bound_or clamped end len len) 1) 0 ts k
are_by_steps p start end (Some (pos n)) ts len k =
    are_taken p (is_up (bound_or clamped start len 0) (bound_or clamped end len len) n) 0 ts k
are_by_steps p start end (Some (negsuc n)) ts len k =
    let f = is_down (bound_or clamped_after end len 0) (bound_or clamped_after start len len) (suc n) in
    are_reversed p (taken f p.path 0 ts) (are_taken p f 0 ts k)

are_by_slice : (path : List Step) (start end step : Option ℤ) (t : Tree)
    → AreChildren (record { path = path; tree = t }) (by_slice path start end step t)
are_by_slice path start end step (array ts) =
    are_by_steps (record { path = path; tree = array ts }) start end step ts _ (from_first path ts)
are_by_slice path start end step _ = tt

abbrev Chooses : Selects → Type 0
Chooses f = (root : Tree) (p : Part) → IsSorted (members_in p.tree) → AreChildren p (f root p)

selector_layer : (y : Selector-F Yields Holds Yields Selects Selects Finds) → Chooses (selector_step y)
selector_layer (Selector-F.Name k) root p s = is_one p (at_key _) (tree_at_key p.tree _) refl
selector_layer Selector-F.Wildcard root p s = are_children p.path p.tree s
selector_layer (Selector-F.Index z) root p s = is_item p (place_of z (items_in p.tree))
selector_layer (Selector-F.Slice start end step) root p s = are_by_slice p.path start end step p.tree
selector_layer (Selector-F.Filter holds) root p s =
    are_kept p (holds root) (children p.path p.tree) (are_children p.path p.tree s)

selector_chooses : (x : Selector) → Chooses (selector_parts x)
selector_chooses x =
    subst Chooses
    (sym (fold_out-Selector Yields Holds Yields Selects Selects Finds comparable_step (expression_step judged) function_step segment_step
    selector_step filter_query_step x))
    (selector_layer _)

pub chosen_children : (xs : List Selector) → Chooses (selected_by xs)
chosen_children [] root p s = tt
chosen_children (x ∷ xs) root p s =
    are_both p (selector_parts x root p) (selected_by xs root p) (selector_chooses x root p s) (chosen_children xs root p s)

-- ---- children with one last step are the same

some_same : (t u : Tree) → Some t ≡ Some u → t ≡ u
some_same t u h = cc

pub same_child : (p q r : Part) → IsChild p q → IsChild p r → EndAlike q.path r.path → q ≡ r
same_child p q r (s, a, at) (t, b, bt) (x, up, over, c, d) =
    let left : s ≡ x = (same_from_push p.path up s x (sym a ∙ c)).1 in
    let right : t ≡ x = (same_from_push p.path over t x (sym b ∙ d)).1 in
    let step : s ≡ t = left ∙ sym right in
    let path : q.path ≡ r.path = a ∙ (ap (λ z. p.path ++ z ∷ []) step ∙ sym b) in
    let tree : q.tree ≡ r.tree = some_same q.tree r.tree (sym at ∙ (ap (λ z. at_step z p.tree) step ∙ bt)) in
    λ i. record { path = path i; tree = tree i }

-- ---- the last steps of locations

pub ends_alike_at_index : (l r : Location) (up over : Rc Location Global) (i j : ℕ) → l ≡ location.Item up i → r ≡ location.Item over j
    → nat_eq i j ≡ true → EndAlike (path_view l) (path_view r)
ends_alike_at_index l r up over i j e f same =
    let is : i ≡ j = grind (arith, nat_tests) in (
      at_index i,
      path_view up.value,
      path_view over.value,
      ap path_view e ∙ path_item up i,
      ap path_view f ∙ (path_item over j ∙ ap (λ k. path_view over.value ++ at_index k ∷ []) (sym is)),
    )
  where
    path_item : (up : Rc Location Global) (i : ℕ) → path_view (location.Item up i) ≡ path_view up.value ++ at_index i ∷ []
    path_item up i = search (rules, the_lemmas)

pub ends_alike_at_key : (l r : Location) (up over : Rc Location Global) (j k : Bor (List ℕ))
    → l ≡ location.Member up j → r ≡ location.Member over k → chars j.now ≡ chars k.now → EndAlike (path_view l) (path_view r)
ends_alike_at_key l r up over j k e f same = (
  at_key (chars j.now),
  path_view up.value,
  path_view over.value,
  ap path_view e ∙ path_member up j,
  ap path_view f ∙ (path_member over k ∙ ap (λ c. path_view over.value ++ at_key c ∷ []) (sym same)),
)
  where
    path_member : (up : Rc Location Global) (k : Bor (List ℕ))
        → path_view (location.Member up k) ≡ path_view up.value ++ at_key (chars k.now) ∷ []
    path_member up k = search (rules, the_lemmas)
