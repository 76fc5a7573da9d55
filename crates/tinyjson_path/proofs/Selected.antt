-- The strings of what is selected are within those of what it is selected from.
use Rattle.std.proofs.Common.{ℕ, zero, suc, ◌+◌, ℤ, pos, negsuc, Bool, true, false, cond, List, [], ◌∷◌, ◌++◌, reverse}
use Rattle.std.proofs.Common.{Option, Some, None, sym, subst, bytes_eq, option_and_then, option_map}
use Rattle.std.proofs.lemmas.List.{reverse-append}
use Rattle.tinyjson.specs.Index.{nth, tree_at, tree_at_key}
use Rattle.tinyjson.specs.Tree.{Tree, null, boolean, number, string, array, object, Items, no_items, item, Members, no_members}
use Rattle.tinyjson.specs.Tree.{member, find}
use Rattle.tinyjson.specs.View.{text}
use Rattle.tinyjson_path.specs.Comparing.{one_child, one_at, origin_tree, one_tree, whole, size_of, length_of, value_of}
use Rattle.tinyjson_path.specs.Nodes.{Step, at_key, at_index, Part, below, items_from, members_at, children, visited, visited_items}
use Rattle.tinyjson_path.specs.Nodes.{visited_members}
use Rattle.tinyjson_path.specs.Selecting.{from_each, one_below, by_name, by_index, by_slice, by_steps, item_below, items_in, taken, up}
use Rattle.tinyjson_path.specs.Selecting.{down, tree_at_place}
use Rattle.tinyjson_path.specs.Slices.{place_of, clamped, clamped_after, bound_or, is_up, is_down}
use Rattle.tinyjson_path.specs.Strings.{Texts, strings_in, strings_in_items, strings_in_members, strings_at, strings_of}
use Rattle.tinyjson_path_query.specs.declared.query.Origin.{Origin}
use Rattle.tinyjson_path_query.specs.declared.query.Origin.TheVariants.{Root, CurrentNode}
use Rattle.tinyjson_path_query.specs.declared.query.SingularQuery.{SingularQuery}
use Rattle.tinyjson_path_query.specs.declared.query.SingularSegment.{SingularSegment}
use Rattle.tinyjson_path_query.specs.declared.query.SingularSegment.TheVariants.{Name, Index}
use Rattle.tinyjson_path.proofs.Within.{Within, within_self, within_none, within_left, within_right, within_both, within_trans}

abbrev pub AreWithin : Texts → List Part → Type 0
AreWithin zs [] = Unit {0}
AreWithin zs (p ∷ ps) = Within (strings_in p.tree) zs × AreWithin zs ps

pub are_within : (zs : Texts) (ps : List Part) → AreWithin zs ps → Within (strings_of ps) zs
are_within zs [] h = within_none zs
are_within zs (p ∷ ps) h = within_both (strings_in p.tree) (strings_of ps) zs h.0 (are_within zs ps h.1)

pub are_from : (zs : Texts) (ps : List Part) → Within (strings_of ps) zs → AreWithin zs ps
are_from zs [] w = tt
are_from zs (p ∷ ps) w = (
  within_trans (strings_in p.tree) (strings_of (p ∷ ps)) zs (within_left (strings_in p.tree) (strings_of ps)) w,
  are_from zs ps (within_trans (strings_of ps) (strings_of (p ∷ ps)) zs (within_right (strings_in p.tree) (strings_of ps)) w),
)

pub are_in : (xs ys : Texts) (ps : List Part) → Within xs ys → AreWithin xs ps → AreWithin ys ps
are_in xs ys [] w h = tt
are_in xs ys (p ∷ ps) w h = (within_trans (strings_in p.tree) xs ys h.0 w, are_in xs ys ps w h.1)

pub are_both : (zs : Texts) (ps qs : List Part) → AreWithin zs ps → AreWithin zs qs → AreWithin zs (ps ++ qs)
are_both zs [] qs h k = k
are_both zs (p ∷ ps) qs h k = (h.0, are_both zs ps qs h.1 k)

pub are_first : (zs : Texts) (ps qs : List Part) → AreWithin zs (ps ++ qs) → AreWithin zs ps
are_first zs [] qs h = tt
are_first zs (p ∷ ps) qs h = (h.0, are_first zs ps qs h.1)

pub are_last : (zs : Texts) (ps qs : List Part) → AreWithin zs (ps ++ qs) → AreWithin zs qs
are_last zs [] qs h = h
are_last zs (p ∷ ps) qs h = are_last zs ps qs h.1

pub are_chosen : (zs : Texts) (b : Bool) (ps qs : List Part) → AreWithin zs ps → AreWithin zs qs → AreWithin zs (cond b ps qs)
are_chosen zs true ps qs h k = h
are_chosen zs false ps qs h k = k

pub are_reversed : (zs : Texts) (ps : List Part) → AreWithin zs ps → AreWithin zs (reverse ps)
are_reversed zs [] h = tt
are_reversed zs (p ∷ ps) h =
    subst (AreWithin zs) (sym (reverse-append (p ∷ []) ps)) (are_both zs (reverse ps) (p ∷ []) (are_reversed zs ps h.1) (h.0, tt))

pub are_each : (zs : Texts) (f : Part → List Part) (ps : List Part) → ((p : Part) → AreWithin (strings_in p.tree) (f p)) → AreWithin zs ps
    → AreWithin zs (from_each f ps)
are_each zs f [] k h = tt
are_each zs f (p ∷ ps) k h =
    are_both zs (f p) (from_each f ps) (are_in (strings_in p.tree) zs (f p) h.0 (k p)) (are_each zs f ps k h.1)

-- ---- children and descendants

are_items : (path : List Step) (i : ℕ) (ts : Items) → AreWithin (strings_in_items ts) (items_from path i ts)
are_items path i no_items = tt
are_items path i (item t ts) = (
  within_left (strings_in t) (strings_in_items ts),
  are_in (strings_in_items ts) (strings_in t ++ strings_in_items ts) (items_from path (i + 1) ts)
      (within_right (strings_in t) (strings_in_items ts)) (are_items path (i + 1) ts),
)

are_members : (path : List Step) (ms : Members) → AreWithin (strings_in_members ms) (members_at path ms)
are_members path no_members = tt
are_members path (member k t ms) = (
  within_left (strings_in t) (strings_in_members ms),
  are_in (strings_in_members ms) (strings_in t ++ strings_in_members ms) (members_at path ms)
      (within_right (strings_in t) (strings_in_members ms)) (are_members path ms),
)

pub are_children : (path : List Step) (t : Tree) → AreWithin (strings_in t) (children path t)
are_children path (array ts) = are_items path 0 ts
are_children path (object ms) = are_members path ms
are_children path _ = tt

mutual
  pub are_visited : (path : List Step) (t : Tree) → AreWithin (strings_in t) (visited path t)
  are_visited path null = (within_self [], tt)
  are_visited path (boolean b) = (within_self [], tt)
  are_visited path (number d) = (within_self [], tt)
  are_visited path (string cs) = (within_self (cs ∷ []), tt)
  are_visited path (array ts) = (within_self (strings_in_items ts), are_visited_items path 0 ts)
  are_visited path (object ms) = (within_self (strings_in_members ms), are_visited_members path ms)

  are_visited_items : (path : List Step) (i : ℕ) (ts : Items) → AreWithin (strings_in_items ts) (visited_items path i ts)
  are_visited_items path i no_items = tt
  are_visited_items path i (item t ts) =
      are_both (strings_in t ++ strings_in_items ts) (visited (path ++ at_index i ∷ []) t) (visited_items path (i + 1) ts)
      (are_in (strings_in t) (strings_in t ++ strings_in_items ts) (visited (path ++ at_index i ∷ []) t)
      (within_left (strings_in t) (strings_in_items ts)) (are_visited (path ++ at_index i ∷ []) t))
      (are_in (strings_in_items ts) (strings_in t ++ strings_in_items ts) (visited_items path (i + 1) ts)
      (within_right (strings_in t) (strings_in_items ts)) (are_visited_items path (i + 1) ts))

  are_visited_members : (path : List Step) (ms : Members) → AreWithin (strings_in_members ms) (visited_members path ms)
  are_visited_members path no_members = tt
  are_visited_members path (member k t ms) =
      are_both (strings_in t ++ strings_in_members ms) (visited (path ++ at_key k ∷ []) t) (visited_members path ms)
      (are_in (strings_in t) (strings_in t ++ strings_in_members ms) (visited (path ++ at_key k ∷ []) t)
      (within_left (strings_in t) (strings_in_members ms)) (are_visited (path ++ at_key k ∷ []) t))
      (are_in (strings_in_members ms) (strings_in t ++ strings_in_members ms) (visited_members path ms)
      (within_right (strings_in t) (strings_in_members ms)) (are_visited_members path ms))

-- ---- one child

is_chosen : (zs : Texts) (b : Bool) (o p : Option Tree) → Within (strings_at o) zs → Within (strings_at p) zs
    → Within (strings_at (cond b o p)) zs
is_chosen zs true o p h k = h
is_chosen zs false o p h k = k

is_found : (k : List ℕ) (ms : Members) → Within (strings_at (find k ms)) (strings_in_members ms)
is_found k no_members = within_none []
is_found k (member l t ms) =
    is_chosen (strings_in t ++ strings_in_members ms) (bytes_eq k l) (Some t) (find k ms)
    (within_left (strings_in t) (strings_in_members ms))
    (within_trans (strings_at (find k ms)) (strings_in_members ms) (strings_in t ++ strings_in_members ms) (is_found k ms)
    (within_right (strings_in t) (strings_in_members ms)))

is_nth : (ts : Items) (i : ℕ) → Within (strings_at (nth ts i)) (strings_in_items ts)
is_nth no_items i = within_none []
is_nth (item t ts) zero = within_left (strings_in t) (strings_in_items ts)
is_nth (item t ts) (suc i) =
    within_trans (strings_at (nth ts i)) (strings_in_items ts) (strings_in t ++ strings_in_items ts) (is_nth ts i)
    (within_right (strings_in t) (strings_in_items ts))

pub is_at_key : (t : Tree) (k : List ℕ) → Within (strings_at (tree_at_key t k)) (strings_in t)
is_at_key (object ms) k = is_found k ms
is_at_key t k = within_none (strings_in t)

pub is_at : (t : Tree) (i : ℕ) → Within (strings_at (tree_at t i)) (strings_in t)
is_at (array ts) i = is_nth ts i
is_at t i = within_none (strings_in t)

pub is_at_place : (t : Tree) (o : Option ℕ) → Within (strings_at (tree_at_place t o)) (strings_in t)
is_at_place t None = within_none (strings_in t)
is_at_place t (Some i) = is_at t i

are_one : (zs : Texts) (path : List Step) (s : Step) (o : Option Tree) → Within (strings_at o) zs → AreWithin zs (one_below path s o)
are_one zs path s None h = tt
are_one zs path s (Some t) h = (h, tt)

pub are_by_name : (path : List Step) (k : List ℕ) (t : Tree) → AreWithin (strings_in t) (by_name path k t)
are_by_name path k t = are_one (strings_in t) path (at_key k) (tree_at_key t k) (is_at_key t k)

are_item : (path : List Step) (t : Tree) (o : Option ℕ) → AreWithin (strings_in t) (item_below path t o)
are_item path t None = tt
are_item path t (Some i) = are_one (strings_in t) path (at_index i) (tree_at t i) (is_at t i)

pub are_by_index : (path : List Step) (z : ℤ) (t : Tree) → AreWithin (strings_in t) (by_index path z t)
are_by_index path z t = are_item path t (place_of z (items_in t))

-- ---- a slice

are_taken : (f : ℕ → Bool) (path : List Step) (i : ℕ) (ts : Items) → AreWithin (strings_in_items ts) (taken f path i ts)
are_taken f path i no_items = tt
are_taken f path i (item t ts) =
    are_both (strings_in t ++ strings_in_items ts) (cond (f i) (below path (at_index i) t ∷ []) []) (taken f path (i + 1) ts)
    (are_chosen (strings_in t ++ strings_in_items ts) (f i) (below path (at_index i) t ∷ []) []
    (within_left (strings_in t) (strings_in_items ts), tt) tt)
    (are_in (strings_in_items ts) (strings_in t ++ strings_in_items ts) (taken f path (i + 1) ts)
    (within_right (strings_in t) (strings_in_items ts)) (are_taken f path (i + 1) ts))

are_up : (path : List Step) (start end : Option ℤ) (n : ℕ) (ts : Items) (len : ℕ)
    → AreWithin (strings_in_items ts) (up path start end n ts len)
are_up path start end n ts len = are_taken (is_up (bound_or clamped start len 0) (bound_or clamped end len len) n) path 0 ts

are_down : (path : List Step) (start end : Option ℤ) (n : ℕ) (ts : Items) (len : ℕ)
    → AreWithin (strings_in_items ts) (down path start end n ts len)
are_down path start end n ts len =
    are_reversed (strings_in_items ts)
    (taken (is_down (bound_or clamped_after end len 0) (bound_or clamped_after start len len) n) path 0 ts)
    (are_taken (is_down (bound_or clamped_after end len 0) (bound_or clamped_after start len len) n) path 0 ts)

are_by_steps : (path : List Step) (start end step : Option ℤ) (ts : Items) (len : ℕ)
    → AreWithin (strings_in_items ts) (by_steps path start end step ts len)
are_by_steps path start end None ts len = are_up path start end 1 ts len
are_by_steps path start end (Some (pos n)) ts len = are_up path start end n ts len
are_by_steps path start end (Some (negsuc n)) ts len = are_down path start end (suc n) ts len

pub are_by_slice : (path : List Step) (start end step : Option ℤ) (t : Tree) → AreWithin (strings_in t) (by_slice path start end step t)
are_by_slice path start end step (array ts) = are_by_steps path start end step ts _
are_by_slice path start end step _ = tt

-- the only child that a singular query names at each step
is_one_child : (s : SingularSegment) (t : Tree) → Within (strings_at (one_child s t)) (strings_in t)
is_one_child (Name k) t = is_at_key t (text k)
is_one_child (Index z) t = is_at_place t (place_of z (items_in t))

is_then : (zs : Texts) (f : Tree → Option Tree) (o : Option Tree) → ((u : Tree) → Within (strings_at (f u)) (strings_in u))
    → Within (strings_at o) zs → Within (strings_at (option_and_then f o)) zs
is_then zs f None k h = within_none zs
is_then zs f (Some u) k h = within_trans (strings_at (f u)) (strings_in u) zs (k u) h

is_one_at : (ss : List SingularSegment) (t : Tree) → Within (strings_at (one_at ss t)) (strings_in t)
is_one_at [] t = within_self (strings_in t)
is_one_at (s ∷ ss) t = is_then (strings_in t) (one_at ss) (one_child s t) (is_one_at ss) (is_one_child s t)

-- where a query in a filter begins
pub is_origin : (o : Origin) (root here : Tree) → Within (strings_in (origin_tree o root here)) (strings_in root ++ strings_in here)
is_origin Root root here = within_left (strings_in root) (strings_in here)
is_origin CurrentNode root here = within_right (strings_in root) (strings_in here)

pub is_one_tree : (q : SingularQuery) (root here : Tree) → Within (strings_at (one_tree q root here)) (strings_in root ++ strings_in here)
is_one_tree q root here =
    within_trans (strings_at (one_tree q root here)) (strings_in (origin_tree q.origin root here)) (strings_in root ++ strings_in here)
    (is_one_at q.segments.items (origin_tree q.origin root here)) (is_origin q.origin root here)

-- ---- what functions yield

is_whole : (zs : Texts) (o : Option ℕ) → Within (strings_at (option_map whole o)) zs
is_whole zs None = within_none zs
is_whole zs (Some n) = within_none zs

pub is_length : (zs : Texts) (o : Option Tree) → Within (strings_at (length_of o)) zs
is_length zs o = is_whole zs (option_and_then size_of o)

pub is_value : (zs : Texts) (ps : List Part) → AreWithin zs ps → Within (strings_at (value_of ps)) zs
is_value zs [] h = within_none zs
is_value zs (p ∷ []) h = h.0
is_value zs (p ∷ q ∷ ps) h = within_none zs
