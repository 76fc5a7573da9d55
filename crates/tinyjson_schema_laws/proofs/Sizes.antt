-- How large trees and their parts are: so many containers are in a tree.
use Rattle.std.proofs.Common.{ℕ, zero, suc, ◌+◌, ◌≤◌, Bool, true, false, List, [], ◌∷◌, ◌++◌, Option, Some, None, cond, arith}
use Rattle.std.proofs.Common.{bytes_eq, encode_utf8_all}
use Rattle.std.specs.Prelude.{⊤, option_and_then}
use Rattle.std.specs.Str.{chars, is_utf8}
use Rattle.tinyjson.specs.Index.{nth, tree_at_key}
use Rattle.tinyjson.specs.Tree.{Tree, string, array, object, Items, no_items, item, Members, no_members, member, find}
use Rattle.tinyjson_pointer.specs.Index.{index_of}
use Rattle.tinyjson_pointer.specs.Text.{pointer_tokens}
use Rattle.tinyjson_pointer.specs.Walk.{step, part_at, item_of}
use Rattle.tinyjson_schema_keywords.specs.Anchors.{Named, anchors_among, anchors_by, own_anchors, anchored, anchors_in, is_plain_name}
use Rattle.tinyjson_schema_keywords.specs.Forms.{form_at, form_by}
use Rattle.tinyjson_schema_keywords.specs.References.{target, at_fragment, at_text, at_pointer, schema_from, reference_bytes}
use Rattle.tinyjson_schema_keywords.specs.References.{referenced, form_after, is_schema_form}
use Rattle.tinyjson_schema_keywords.specs.Applied.{schema_at}
use Rattle.tinyjson_schema_keywords.specs.Subschemas.{InSchema, schema_members, members_among, members_in_list, members_in_map}
use Rattle.tinyjson_schema_keywords.specs.Subschemas.{members_of_items, members_of_entries, members_by}
use Rattle.tinyjson_schema_keywords.specs.declared.keyword.Form.{Form}
use Rattle.tinyjson_schema_keywords.specs.declared.keyword.Form.TheVariants as form
use Rattle.tinyjson_schema_keywords.specs.declared.keyword.Keyword.{Keyword}

abbrev mutual
  pub size : Tree → ℕ
  size (array ts) = suc (items_size ts)
  size (object ms) = suc (members_size ms)
  size _ = 0

  pub items_size : Items → ℕ
  items_size no_items = 0
  items_size (item t ts) = size t + items_size ts

  pub members_size : Members → ℕ
  members_size no_members = 0
  members_size (member k t ms) = size t + members_size ms

-- without a tree it is 0
abbrev pub opt_size : Option Tree → ℕ
opt_size None = 0
opt_size (Some t) = size t

-- ---- parts

pub nth_size : (ts : Items) (i : ℕ) → opt_size (nth ts i) ≤ items_size ts
nth_size no_items i = omega arith
nth_size (item t ts) zero = omega arith
nth_size (item t ts) (suc i) = let l : opt_size (nth ts i) ≤ items_size ts = nth_size ts i in omega arith

pub find_size : (k : List ℕ) (ms : Members) → opt_size (find k ms) ≤ members_size ms
find_size k no_members = omega arith
find_size k (member l u ms) = by (bytes_eq k l) (find_size k ms)
  where
    by : (b : Bool) → opt_size (find k ms) ≤ members_size ms → opt_size (cond b (Some u) (find k ms)) ≤ size u + members_size ms
    by true h = omega arith
    by false h = omega arith

pub key_size : (t : Tree) (k : List ℕ) → opt_size (tree_at_key t k) ≤ size t
key_size (object ms) k = let l : opt_size (find k ms) ≤ members_size ms = find_size k ms in omega arith
key_size _ k = omega arith

step_size : (t : Tree) (k : List ℕ) → opt_size (step t k) ≤ size t
step_size (object ms) k = key_size (object ms) k
step_size (array ts) k = by (index_of k)
  where
    by : (o : Option ℕ) → opt_size (item_of ts o) ≤ suc (items_size ts)
    by None = omega arith
    by (Some i) = let l : opt_size (nth ts i) ≤ items_size ts = nth_size ts i in omega arith
step_size _ k = omega arith

part_size : (ks : List (List ℕ)) (t : Tree) → opt_size (part_at t ks) ≤ size t
part_size [] t = omega arith
part_size (k ∷ ks) t = by (λ u. part_size ks u) (step t k) (step_size t k)
  where
    by : ((u : Tree) → opt_size (part_at u ks) ≤ size u) → (o : Option Tree) → opt_size o ≤ size t
        → opt_size (option_and_then (λ u. part_at u ks) o) ≤ size t
    by later None h = omega arith
    by later (Some u) h = let l : opt_size (part_at u ks) ≤ size u = later u in omega arith

-- ---- schemas with a plain name

module _ (n : ℕ) where
  abbrev AreWithin : List InSchema → Type 0
  AreWithin [] = ⊤
  AreWithin (m ∷ ms) = (size m.0 ≤ n) × AreWithin ms

  abbrev NamesWithin : List Named → Type 0
  NamesWithin [] = ⊤
  NamesWithin (m ∷ ms) = (size m.1 ≤ n) × NamesWithin ms

  both_within : (xs ys : List InSchema) → AreWithin xs → AreWithin ys → AreWithin (xs ++ ys)
  both_within [] ys h g = g
  both_within (x ∷ xs) ys h g = (h.0, both_within xs ys h.1 g)

  both_named : (xs ys : List Named) → NamesWithin xs → NamesWithin ys → NamesWithin (xs ++ ys)
  both_named [] ys h g = g
  both_named (x ∷ xs) ys h g = (h.0, both_named xs ys h.1 g)

  form_within : (f : Form) (one list entries : List InSchema) → AreWithin one → AreWithin list → AreWithin entries
      → AreWithin (members_by f one list entries)
  form_within form.Schema one list entries h g e = h
  form_within form.Schemas one list entries h g e = g
  form_within form.SchemaMap one list entries h g e = e
  form_within form.PatternMap one list entries h g e = e
  form_within _ one list entries h g e = tt

  mutual
    schema_within : (t : Tree) → size t ≤ n → AreWithin (schema_members t)
    schema_within (object ms) h = among_within (object ms) ms h (omega arith)
    schema_within _ h = tt

    among_within : (s : Tree) (ms : Members) → size s ≤ n → members_size ms ≤ n → AreWithin (members_among s ms)
    among_within s no_members h g = tt
    among_within s (member k w ms) h g = (
      h,
      both_within (members_by (form_at (encode_utf8_all k)) (schema_members w) (members_in_list w) (members_in_map w)) (members_among s ms)
          (form_within (form_at (encode_utf8_all k)) (schema_members w) (members_in_list w) (members_in_map w)
          (schema_within w (omega arith)) (list_within w (omega arith)) (map_within w (omega arith)))
          (among_within s ms h (omega arith)),
    )

    list_within : (t : Tree) → size t ≤ n → AreWithin (members_in_list t)
    list_within (array ts) h = items_within ts (omega arith)
    list_within _ h = tt

    map_within : (t : Tree) → size t ≤ n → AreWithin (members_in_map t)
    map_within (object ms) h = entries_within ms (omega arith)
    map_within _ h = tt

    items_within : (ts : Items) → items_size ts ≤ n → AreWithin (members_of_items ts)
    items_within no_items h = tt
    items_within (item t ts) h =
        both_within (schema_members t) (members_of_items ts) (schema_within t (omega arith)) (items_within ts (omega arith))

    entries_within : (ms : Members) → members_size ms ≤ n → AreWithin (members_of_entries ms)
    entries_within no_members h = tt
    entries_within (member k t ms) h =
        both_within (schema_members t) (members_of_entries ms) (schema_within t (omega arith)) (entries_within ms (omega arith))

  named_within : (ms : List InSchema) → AreWithin ms → NamesWithin (anchors_among ms)
  named_within [] h = tt
  named_within (m ∷ ms) h = both_named (anchors_by (form_by m.2) (own_anchors m.0 m.3)) (anchors_among ms)
      (by (form_by m.2) (own m.3)) (named_within ms h.1)
    where
      own : (w : Tree) → NamesWithin (own_anchors m.0 w)
      own (string cs) = (h.0, tt)
      own _ = tt

      by : (f : Form) → NamesWithin (own_anchors m.0 m.3) → NamesWithin (anchors_by f (own_anchors m.0 m.3))
      by form.Anchor g = g
      by _ g = tt

  anchored_within : (ns : List Named) (bs : List ℕ) → NamesWithin ns → opt_size (anchored ns bs) ≤ n
  anchored_within [] bs h = omega arith
  anchored_within (m ∷ ns) bs h = by (bytes_eq m.0 bs) (anchored_within ns bs h.1)
    where
      by : (b : Bool) → opt_size (anchored ns bs) ≤ n → opt_size (cond b (Some m.1) (anchored ns bs)) ≤ n
      by true g = h.0
      by false g = g

-- ---- where references lead

module _ (root : Tree) where
  no_tree : opt_size None ≤ size root
  no_tree = omega arith

  then_size : {X : Type 0} (g : X → Option Tree) → ((x : X) → opt_size (g x) ≤ size root) → (o : Option X)
      → opt_size (option_and_then g o) ≤ size root
  then_size g h None = no_tree
  then_size g h (Some x) = h x

  cond_size : (b : Bool) (o p : Option Tree) → opt_size o ≤ size root → opt_size p ≤ size root → opt_size (cond b o p) ≤ size root
  cond_size true o p h g = h
  cond_size false o p h g = g

  same_size : size root ≤ size root
  same_size = omega arith

  fragment_size : (bs : List ℕ) → opt_size (at_fragment root bs) ≤ size root
  fragment_size bs = cond_size (is_utf8 bs) (at_text root bs) None
      (cond_size (is_plain_name bs) (anchored (anchors_in root) bs) (at_pointer root (chars bs))
      (anchored_within (size root) (anchors_in root) bs (named_within (size root) (schema_members root)
      (schema_within (size root) root same_size)))
      (then_size (schema_from root) (λ ks. cond_size (is_schema_form (form_after form.Schema ks)) (part_at root ks) None
      (part_size ks root) no_tree) (pointer_tokens (chars bs)))) no_tree

  pub target_size : (w : Tree) → opt_size (target root w) ≤ size root
  target_size (string cs) = then_size (at_fragment root) fragment_size (reference_bytes (encode_utf8_all cs))
  target_size _ = no_tree

  pub referenced_size : (k : Keyword) (s : Tree) → opt_size (referenced root k s) ≤ size root
  referenced_size k s = then_size (target root) target_size (schema_at s k)
