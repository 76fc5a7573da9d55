-- Members that are as many as others and stand among them are the same; and a comparison under way.
use Rattle.std.proofs.Common.{◌≡◌, ℕ, zero, suc, ◌+◌, ◌≤◌, Bool, true, false, ◌&&◌, cond, bytes_eq, List, [], ◌∷◌, ◌++◌}
use Rattle.std.proofs.Common.{Option, Some, None, is_none, option_map}
use Rattle.std.proofs.Common.{Ordering, Less, Equal, Greater, refl, sym, ap, ◌∙◌, subst, arith, true≢false}
use mathlib.Core.Logic.{∥∥₁_elim}
use mathlib.Core.Bool.{Bool-set}
use Rattle.std.proofs.Math.Bool.{and_assoc, and_comm}
use Rattle.std.proofs.lemmas.Bool.{and_from, and_parts}
use Rattle.std.proofs.lemmas.Bool.Decides.{same_from_decides}
use Rattle.std.proofs.lemmas.Slice.Eq.{bytes_eq-Decides}
use Rattle.std.proofs.lemmas.Str.{encodes-chars}
use Rattle.std.specs.Bool.{beq}
use Rattle.std.specs.Str.{IsUtf8, chars, encode_utf8_all}
use Rattle.std.specs.Option.{option_eq}
use Rattle.tinyjson.proofs.Callers.{find_below, found_first, key_same, some_none, nth_past}
use Rattle.tinyjson_grammar.proofs.Callers.{flip}
use Rattle.tinyjson.specs.Equality.{tree_eq, tree_eq_Decides, items_eq, members_eq, members_eq_Decides}
use Rattle.tinyjson.specs.Index.{item_count, nth, tree_at, tree_at_key}
use Rattle.tinyjson_number.specs.Number.{decimal_eq}
use Rattle.tinyjson_grammar.specs.Kind.{kind_of}
use Rattle.tinyjson_grammar.specs.declared.kind.JsonKind.TheVariants as kind
use Rattle.tinyjson_grammar.specs.Soundness.{IsTree, IsBelow, IsSorted}
use Rattle.tinyjson_grammar.specs.Tree.{Tree, null, boolean, number, string, array, object, key_cmp, find}
use Rattle.tinyjson_grammar.specs.Tree.{Items, no_items, item, Members, no_members, member}
use Rattle.tinyjson_document.specs.Comparing.{both, scalar_eq, items_from, are_among, weight, items_weight, members_weight}
use Rattle.tinyjson_document.specs.Comparing.{rest_eq, rests_eq, rest_weight, total}
use Rattle.tinyjson_document.specs.Parts.{boolean_in, number_in, string_in, items_in, members_in, member_count, size}
use Rattle.tinyjson_document.specs.declared.equality.Rest.{Rest}

-- ---- members among others

abbrev Within : Members → Members → Type 0
Within ms ns = (q : List ℕ) (t : Tree) → find q ms ≡ Some t → find q ns ≡ Some t

-- what is found is not the key of a member before
not_first : (k q : List ℕ) (t : Tree) (ms : Members) → IsBelow k ms → IsSorted ms → find q ms ≡ Some t → bytes_eq q k ≡ false
not_first k q t ms below sorted h = by (bytes_eq q k) refl
  where
    by : (b : Bool) → bytes_eq q k ≡ b → b ≡ false
    by false e = refl
    by true e = absurd (some_none t (sym h ∙ (ap (λ x. find x ms) ((bytes_eq-Decides q k).0 e) ∙ find_below k ms below sorted)))

past_first : (k q : List ℕ) (u : Tree) (ms : Members) → bytes_eq q k ≡ false → find q (member k u ms) ≡ find q ms
past_first k q u ms e = ap (λ b. cond b (Some u) (find q ms)) e

-- what comes after the same first key is within what comes after it
Within_tails : (k l : List ℕ) (t u : Tree) (ms ns : Members) → k ≡ l → IsBelow k ms → IsSorted ms
    → Within (member k t ms) (member l u ns) → Within ms ns
Within_tails k l t u ms ns e below sorted h q x g =
    let apart = not_first k q x ms below sorted g in
    sym (past_first l q u ns (ap (λ y. bytes_eq q y) (sym e) ∙ apart)) ∙ h q x (past_first k q t ms apart ∙ g)

-- a first key that is below all is not needed
Within_past : (k l : List ℕ) (t u : Tree) (ms ns : Members) → key_cmp k l ≡ Greater → IsSorted (member k t ms)
    → Within (member k t ms) (member l u ns) → Within (member k t ms) ns
Within_past k l t u ms ns e sorted h q x g =
    sym (past_first l q u ns (not_first l q x (member k t ms) (flip k l e) sorted g)) ∙ h q x g

Within_count : (ms ns : Members) → IsSorted ms → IsSorted ns → Within ms ns → member_count ms ≤ member_count ns
Within_count no_members ns s r h = omega arith
Within_count (member k t ms) no_members s r h = absurd (some_none t (sym (h k t (found_first k t ms))))
Within_count (member k t ms) (member l u ns) s r h = by (key_cmp k l) refl (Within_count ms ns s.1 r.1)
    (Within_count (member k t ms) ns s r.1)
  where
    by : (o : Ordering) → key_cmp k l ≡ o → (Within ms ns → member_count ms ≤ member_count ns)
        → (Within (member k t ms) ns → suc (member_count ms) ≤ member_count ns) → suc (member_count ms) ≤ suc (member_count ns)
    by Less e tails all = absurd (some_none t (sym (h k t (found_first k t ms)) ∙ find_below k (member l u ns) e r))
    by Equal e tails all = let le = tails (Within_tails k l t u ms ns (key_same k l e) s.0 s.1 h) in omega (arith, le)
    by Greater e tails all = let le = all (Within_past k l t u ms ns e s h) in omega (arith, le)

Within_same : (ms ns : Members) → IsSorted ms → IsSorted ns → Within ms ns → member_count ns ≤ member_count ms → ms ≡ ns
Within_same no_members no_members s r h le = refl
Within_same no_members (member l u ns) s r h le = absurd (omega (arith, le))
Within_same (member k t ms) no_members s r h le = absurd (some_none t (sym (h k t (found_first k t ms))))
Within_same (member k t ms) (member l u ns) s r h le = by (key_cmp k l) refl (Within_same ms ns s.1 r.1)
  where
    by : (o : Ordering) → key_cmp k l ≡ o → (Within ms ns → member_count ns ≤ member_count ms → ms ≡ ns)
        → member k t ms ≡ member l u ns
    by Less e tails = absurd (some_none t (sym (h k t (found_first k t ms)) ∙ find_below k (member l u ns) e r))
    by Equal e tails =
        let key = key_same k l e in
        let found = sym (h k t (found_first k t ms)) ∙ ap (λ x. find x (member l u ns)) key ∙ found_first l u ns in
        let same : t ≡ u = cc in
        let rest = tails (Within_tails k l t u ms ns key s.0 s.1 h) (omega (arith, le)) in
        (λ i. member (key i) (same i) (rest i))
    by Greater e tails =
        let more = Within_count (member k t ms) ns s r.1 (Within_past k l t u ms ns e s h) in
        absurd (omega (arith, le, more))

has_found : (t : Tree) (o : Option Tree) → option_eq tree_eq (Some t) o ≡ true → o ≡ Some t
has_found t None h = absurd (true≢false (sym h))
has_found t (Some u) h = ap (λ (x : Tree). Some x) (sym ((tree_eq_Decides t u).0 h))

found_has : (t : Tree) (o : Option Tree) → o ≡ Some t → option_eq tree_eq (Some t) o ≡ true
found_has t o e = ap (option_eq tree_eq (Some t)) e ∙ (tree_eq_Decides t t).1 refl

among_Within : (ms ns : Members) → are_among ms ns ≡ true → Within ms ns
among_Within no_members ns h q t g = absurd (some_none t (sym g))
among_Within (member k u ms) ns h q t g = by (bytes_eq q k) refl (among_Within ms ns parts.1 q t)
  where
    parts : (option_eq tree_eq (Some u) (find k ns) ≡ true) × (are_among ms ns ≡ true)
    parts = and_parts (option_eq tree_eq (Some u) (find k ns)) (are_among ms ns) h

    by : (b : Bool) → bytes_eq q k ≡ b → (find q ms ≡ Some t → find q ns ≡ Some t) → find q ns ≡ Some t
    by true d rest = ap (λ x. find x ns) ((bytes_eq-Decides q k).0 d) ∙ has_found u (find k ns) parts.0
        ∙ sym (ap (λ b. cond b (Some u) (find q ms)) d) ∙ g
    by false d rest = rest (sym (past_first k q u ms d) ∙ g)

Within_among : (ms ns : Members) → IsSorted ms → Within ms ns → are_among ms ns ≡ true
Within_among no_members ns s h = refl
Within_among (member k t ms) ns s h =
    and_from (option_eq tree_eq (Some t) (find k ns)) (are_among ms ns) (found_has t (find k ns) (h k t (found_first k t ms)))
    (Within_among ms ns s.1 (λ q x g. h q x (past_first k q t ms (not_first k q x ms s.0 s.1 g) ∙ g)))

among_same : (ms ns : Members) → IsSorted ms → IsSorted ns → member_count ms ≡ member_count ns → are_among ms ns ≡ members_eq ms ns
among_same ms ns s r same =
    let le : member_count ns ≤ member_count ms = omega (arith, same) in
    same_from_decides _ _ (
      λ h. Within_same ms ns s r (among_Within ms ns h) le,
      λ e. Within_among ms ns s (subst (λ z. Within ms z) e (λ q t g. g)),
    )
    (members_eq_Decides ms ns)

apart_members : (ms ns : Members) → (member_count ms ≡ member_count ns → ⊥) → false ≡ members_eq ms ns
apart_members ms ns differ = by (members_eq ms ns) refl
  where
    by : (b : Bool) → members_eq ms ns ≡ b → false ≡ b
    by false e = refl
    by true e = absurd (differ (ap member_count ((members_eq_Decides ms ns).0 e)))

-- ---- two trees of one kind

pub apart_kinds : (t u : Tree) → (kind_of t ≡ kind_of u → ⊥) → false ≡ tree_eq t u
apart_kinds t u differ = by (tree_eq t u) refl
  where
    by : (b : Bool) → tree_eq t u ≡ b → false ≡ b
    by false e = refl
    by true e = absurd (differ (ap kind_of ((tree_eq_Decides t u).0 e)))

pub scalars : (t u : Tree) → (kind_of t ≡ kind.Array → ⊥) → (kind_of t ≡ kind.Object → ⊥) → scalar_eq t u ≡ tree_eq t u
scalars (array ts) u h k = absurd (h refl)
scalars (object ms) u h k = absurd (k refl)
scalars null null h k = refl
scalars (boolean a) (boolean b) h k = refl
scalars (number a) (number b) h k = refl
scalars (string a) (string b) h k = refl
scalars t u h k = refl

pub null_scalars : (t u : Tree) → kind_of t ≡ kind.Null → (kind_of u ≡ kind.Null → ⊥) → false ≡ scalar_eq t u
null_scalars null null e f = absurd (f refl)
null_scalars null _ e f = refl
null_scalars t u e f = absurd cc

pub null_scalar : (t u : Tree) → kind_of t ≡ kind.Null → kind_of u ≡ kind.Null → true ≡ scalar_eq t u
null_scalar null null e f = refl
null_scalar t u e f = absurd cc

pub boolean_scalars : (t u : Tree) → kind_of t ≡ kind.Boolean → both beq (boolean_in t) (boolean_in u) ≡ scalar_eq t u
boolean_scalars (boolean a) (boolean b) e = refl
boolean_scalars (boolean a) _ e = refl
boolean_scalars t u e = absurd cc

pub number_scalars : (t u : Tree) → kind_of t ≡ kind.Number → both decimal_eq (number_in t) (number_in u) ≡ scalar_eq t u
number_scalars (number a) (number b) e = refl
number_scalars (number a) _ e = refl
number_scalars t u e = absurd cc

pub string_scalars : (t u : Tree) → kind_of t ≡ kind.String → both bytes_eq (string_in t) (string_in u) ≡ scalar_eq t u
string_scalars (string a) (string b) e = refl
string_scalars (string a) _ e = refl
string_scalars t u e = absurd cc

pub no_scalar : (t u : Tree) → (kind_of t ≡ kind.Null → ⊥) → (kind_of t ≡ kind.Boolean → ⊥) → (kind_of t ≡ kind.Number → ⊥)
    → (kind_of t ≡ kind.String → ⊥) → false ≡ scalar_eq t u
no_scalar (array ts) u a b c d = refl
no_scalar (object ms) u a b c d = refl
no_scalar null u a b c d = absurd (a refl)
no_scalar (boolean x) u a b c d = absurd (b refl)
no_scalar (number x) u a b c d = absurd (c refl)
no_scalar (string x) u a b c d = absurd (d refl)

pub arrays : (t u : Tree) → kind_of t ≡ kind.Array → kind_of u ≡ kind.Array
    → items_eq (items_in t) (items_in u) ≡ tree_eq t u
arrays (array a) (array b) e f = refl
arrays t u e f = absurd cc

pub array_weight : (t : Tree) → kind_of t ≡ kind.Array → weight t ≡ 2 + items_weight (items_in t)
array_weight (array a) e = refl
array_weight t e = absurd cc

pub object_weight : (t : Tree) → kind_of t ≡ kind.Object → weight t ≡ 2 + members_weight (members_in t)
object_weight (object a) e = refl
object_weight t e = absurd cc

pub some_weight : (t : Tree) → 2 ≤ weight t
some_weight null = omega arith
some_weight (boolean b) = omega arith
some_weight (number d) = omega arith
some_weight (string cs) = omega arith
some_weight (array ts) = omega arith
some_weight (object ms) = omega arith

objects_sorted : (t u : Tree) → kind_of t ≡ kind.Object → kind_of u ≡ kind.Object → IsTree t → IsTree u → size t ≡ size u
    → are_among (members_in t) (members_in u) ≡ tree_eq t u
objects_sorted (object ms) (object ns) e f s r same = among_same ms ns s.1 r.1 same
objects_sorted t u e f s r same = absurd cc

pub objects : (t u : Tree) → kind_of t ≡ kind.Object → kind_of u ≡ kind.Object → ∥ IsTree t ∥₁ → ∥ IsTree u ∥₁ → size t ≡ size u
    → are_among (members_in t) (members_in u) ≡ tree_eq t u
objects t u e f s r same =
    ∥∥₁_elim s (Bool-set _ _) (λ x. ∥∥₁_elim r (Bool-set _ _) (λ y. objects_sorted t u e f x y same))

pub apart_objects : (t u : Tree) → kind_of t ≡ kind.Object → kind_of u ≡ kind.Object → (size t ≡ size u → ⊥) → false ≡ tree_eq t u
apart_objects (object ms) (object ns) e f differ = apart_members ms ns differ
apart_objects t u e f differ = absurd cc

-- ---- one turn

from_some : (i : ℕ) (ts : Items) (t : Tree) → nth ts i ≡ Some t → items_from i ts ≡ item t (items_from (suc i) ts)
from_some zero no_items t h = absurd (some_none t (sym h))
from_some zero (item u us) t h = let same : u ≡ t = cc in ap (λ x. item x us) same
from_some (suc i) no_items t h = absurd (some_none t (sym h))
from_some (suc i) (item u us) t h = from_some i us t h

from_none : (i : ℕ) (ts : Items) → nth ts i ≡ None → items_from i ts ≡ no_items
from_none zero no_items h = refl
from_none zero (item u us) h = absurd (some_none u h)
from_none (suc i) no_items h = refl
from_none (suc i) (item u us) h = from_none i us h

pub at_nth : (t : Tree) (i : ℕ) → tree_at t i ≡ nth (items_in t) i
at_nth (array ts) i = refl
at_nth null i = refl
at_nth (boolean b) i = refl
at_nth (number d) i = refl
at_nth (string cs) i = refl
at_nth (object ms) i = refl

pub at_find : (t : Tree) (k : List ℕ) → tree_at_key t k ≡ find k (members_in t)
at_find (object ms) k = refl
at_find null k = refl
at_find (boolean b) k = refl
at_find (number d) k = refl
at_find (string cs) k = refl
at_find (array ts) k = refl

count_size : (t : Tree) → item_count (items_in t) ≤ size t
count_size (array ts) = omega arith
count_size null = omega arith
count_size (boolean b) = omega arith
count_size (number d) = omega arith
count_size (string cs) = omega arith
count_size (object ms) = omega arith

pub past_size : (t : Tree) (i : ℕ) → size t ≤ i → tree_at t i ≡ None
past_size t i h = at_nth t i ∙ nth_past (items_in t) i (omega (arith, h, count_size t))

-- what is left of two arrays, of which the first goes on with t
module _ (t u : Tree) (i : ℕ) (ts all : Items) (left : all ≡ item t ts) where
  pub item_missing : tree_at u i ≡ None → items_eq all (items_from i (items_in u)) ≡ false
  item_missing h =
      (λ j. items_eq (left j) (from_none i (items_in u) (sym (at_nth u i) ∙ h) j))

  pub item_there : (v : Tree) → tree_at u i ≡ Some v
      → items_eq all (items_from i (items_in u)) ≡ (tree_eq t v && items_eq ts (items_from (i + 1) (items_in u)))
  item_there v h =
      let next : suc i ≡ i + 1 = omega arith in
      (λ j. items_eq (left j) (from_some i (items_in u) v (sym (at_nth u i) ∙ h) j))
      ∙ ap (λ n. tree_eq t v && items_eq ts (items_from n (items_in u))) next

pub items_end : {V : Type 0} (tree_of : V → Tree) (u : Tree) (i : ℕ) (o : Option V) (all : Items) → all ≡ no_items
    → option_map tree_of o ≡ tree_at u i → is_none o ≡ items_eq all (items_from i (items_in u))
items_end tree_of u i None all e h =
    (λ j. items_eq (sym e j) (sym (from_none i (items_in u) (sym (at_nth u i) ∙ sym h)) j))
items_end tree_of u i (Some v) all e h =
    (λ j. items_eq (sym e j) (sym (from_some i (items_in u) (tree_of v) (sym (at_nth u i) ∙ sym h)) j))

-- and of two objects
module _ (k : List ℕ) (t u : Tree) (ms all : Members) (left : all ≡ member k t ms) where
  pub member_missing : tree_at_key u k ≡ None → are_among all (members_in u) ≡ false
  member_missing h =
      ap (λ z. are_among z (members_in u)) left
      ∙ ap (λ o. option_eq tree_eq (Some t) o && are_among ms (members_in u)) (sym (at_find u k) ∙ h)

  pub member_there : (v : Tree) → tree_at_key u k ≡ Some v
      → are_among all (members_in u) ≡ (tree_eq t v && are_among ms (members_in u))
  member_there v h =
      ap (λ z. are_among z (members_in u)) left
      ∙ ap (λ o. option_eq tree_eq (Some t) o && are_among ms (members_in u)) (sym (at_find u k) ∙ h)

-- ---- what is left

module _ {V : Type 0} (tree_of : V → Tree) where
  pub rests_eq_last : (rs : List (Rest V)) (r : Rest V) → rests_eq tree_of (rs ++ r ∷ []) ≡ rest_eq tree_of r && rests_eq tree_of rs
  rests_eq_last [] r = refl
  rests_eq_last (s ∷ rs) r = ap (λ b. rest_eq tree_of s && b) (rests_eq_last rs r)
      ∙ (sym (and_assoc (rest_eq tree_of s) (rest_eq tree_of r) (rests_eq tree_of rs))
      ∙ (ap (λ b. b && rests_eq tree_of rs) (and_comm (rest_eq tree_of s) (rest_eq tree_of r))
      ∙ and_assoc (rest_eq tree_of r) (rest_eq tree_of s) (rests_eq tree_of rs)))

pub total_last : {V : Type 0} (rs : List (Rest V)) (r : Rest V) → total (rs ++ r ∷ []) ≡ rest_weight r + total rs
total_last [] r = refl
total_last (s ∷ rs) r = omega (arith, total_last rs r)

-- r is what was left, d what was deferred, w whether all of it is the same: what is inside is compared first
pub turn_deferred : (r d w : Bool) → r && d ≡ w → (i o : Bool) → i && o ≡ r → i && (o && d) ≡ w
turn_deferred r d w all i o inside = sym (and_assoc i o d) ∙ (ap (λ b. b && d) inside ∙ all)

-- two texts have the same characters exactly if they have the same bytes
pub same_bytes : (a b : List ℕ) → IsUtf8 a → IsUtf8 b → bytes_eq a b ≡ bytes_eq (chars a) (chars b)
same_bytes a b u v = same_from_decides _ _ (
  λ h. ap chars ((bytes_eq-Decides a b).0 h),
  λ e. (bytes_eq-Decides a b).1 (sym (encodes-chars a u) ∙ ap encode_utf8_all e ∙ encodes-chars b v),
)
    (bytes_eq-Decides (chars a) (chars b))

-- one turn: x is whether the first is the same, r whether what is left is, w whether all is
module _ (x r all w : Bool) (split : all ≡ (x && r)) (is : all ≡ w) where
  pub turn_same : x ≡ true → r ≡ w
  turn_same e = sym (ap (λ b. b && r) e) ∙ sym split ∙ is

  pub turn_differs : x ≡ false → false ≡ w
  turn_differs e = sym (ap (λ b. b && r) e) ∙ sym split ∙ is

  pub turn_inside : (y : Bool) → y ≡ x → y && r ≡ w
  turn_inside y e = ap (λ b. b && r) e ∙ sym split ∙ is
