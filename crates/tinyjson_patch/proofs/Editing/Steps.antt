-- One step from a value that is being changed to a part of it, and a part that is written.
use Rattle.std.proofs.Common.{◌≡◌, ℕ, ◌≤◌, ◌<◌, zero, suc, length, List, [], ◌∷◌, Option, Some, None, IsSome, option_map, cond, get_or}
use Rattle.std.proofs.Common.{Global, String, refl, sym, ap, ◌∙◌, arith}
use Rattle.std.specs.BTreeMap.{BTreeMap, get_by, is_at, WritesThrough}
use Rattle.std.specs.Map.{lookup}
use Rattle.std.specs.Prelude.{slice_get, slice_set, option_and_then}
use Rattle.std.specs.List.{insert, remove}
use Rattle.std.specs.Str.{IsUtf8, chars}
use Rattle.std.specs.String.{string_cmp}
use Rattle.std.specs.declared.collections.VecDeque.{VecDeque}
use Rattle.tinyjson.specs.Index.{nth, with_nth, item_count}
use Rattle.tinyjson_grammar.specs.Tree.{Tree, array, object, Items, no_items, item, find, put}
use Rattle.tinyjson_pointer.specs.Change.{insertion_index, with_item_before, with_child, without_nth, without_item, without_step, without_child}
use Rattle.tinyjson_pointer.specs.Index.{index_of}
use Rattle.tinyjson_pointer.specs.Walk.{step, item_of}
use Rattle.tinyjson_patch.specs.private.Edited.{tree, Item, item_tree, items_tree, members_tree}
use Rattle.tinyjson_patch.specs.declared.edit.edited.Edited.{Edited}
use Rattle.tinyjson_patch.specs.declared.edit.edited.Edited.TheVariants as is
use Rattle.tinyjson_patch.proofs.Editing.Listed.{cmp_to, find_members, members_removed, members_written}
use Rattle.tinyjson_patch.proofs.Editing.Trees.{tree_Array, tree_Object}

abbrev pub EditedMap : Type 0
EditedMap = BTreeMap (String Global) Edited

-- ---- items

pub nth_tree : (es : List Item) (i : ℕ) → nth (items_tree es) i ≡ option_map item_tree (slice_get es i)
nth_tree [] i = refl
nth_tree (e ∷ es) zero = refl
nth_tree (e ∷ es) (suc i) = nth_tree es i

pub count_tree : (es : List Item) → item_count (items_tree es) ≡ length es
count_tree [] = refl
count_tree (e ∷ es) = ap suc (count_tree es)

pub nth_past : (es : List Item) (i : ℕ) → length es ≤ i → nth (items_tree es) i ≡ None
nth_past [] i h = refl
nth_past (e ∷ es) zero h = absurd (omega arith)
nth_past (e ∷ es) (suc i) h = nth_past es i (omega arith)

pub no_item : (es : List Item) (o : Option ℕ) → ((i : ℕ) → o ≡ Some i → length es ≤ i) → item_of (items_tree es) o ≡ None
no_item es None h = refl
no_item es (Some i) h = nth_past es i (h i refl)

pub items_set : (es : List Item) (i : ℕ) (w : Item) → items_tree (slice_set es i w) ≡ with_nth (items_tree es) i (item_tree w)
items_set [] i w = refl
items_set (e ∷ es) zero w = refl
items_set (e ∷ es) (suc i) w = ap (item (item_tree e)) (items_set es i w)

pub items_inserted : (es : List Item) (i : ℕ) (e : Item) → i ≤ length es
    → with_item_before (items_tree es) i (item_tree e) ≡ Some (items_tree (insert es i e))
items_inserted [] zero e h = refl
items_inserted [] (suc i) e h = absurd (omega arith)
items_inserted (w ∷ es) zero e h = refl
items_inserted (w ∷ es) (suc i) e h = ap (option_map (item (item_tree w))) (items_inserted es i e (omega arith))

pub none_inserted : (es : List Item) (i : ℕ) (u : Tree) → length es < i → with_item_before (items_tree es) i u ≡ None
none_inserted [] zero u h = absurd (omega arith)
none_inserted [] (suc i) u h = refl
none_inserted (w ∷ es) zero u h = absurd (omega arith)
none_inserted (w ∷ es) (suc i) u h = ap (option_map (item (item_tree w))) (none_inserted es i u (omega arith))

pub items_removed : (es : List Item) (i : ℕ) → i < length es → without_nth (items_tree es) i ≡ items_tree (remove es i)
items_removed [] i h = absurd (omega arith)
items_removed (w ∷ es) zero h = refl
items_removed (w ∷ es) (suc i) h = ap (item (item_tree w)) (items_removed es i (omega arith))

pub at_index : (es : List Item) (i : ℕ) (x : Item) → i < length es → x ≡ get_or es i x → slice_get es i ≡ Some x
at_index [] i x h e = absurd (omega arith)
at_index (v ∷ es) zero x h e = ap Some (sym e)
at_index (v ∷ es) (suc i) x h e = at_index es i x (omega arith) e

pub nth_there : (es : List Item) (i : ℕ) (b : Item) → i < length es → b ≡ get_or es i b → nth (items_tree es) i ≡ Some (item_tree b)
nth_there es i b within is = nth_tree es i ∙ ap (option_map item_tree) (at_index es i b within is)

-- ---- a step into an array

module _ (e : Edited) (l : VecDeque Item Global) (k : List ℕ) (is_array : e ≡ is.Array l) where
  pub array_is : tree e ≡ array (items_tree l.items)
  array_is = ap tree is_array ∙ tree_Array l

  pub item_past : ((i : ℕ) → index_of k ≡ Some i → length l.items ≤ i) → step (tree e) k ≡ None
  item_past past = ap (λ t. step t k) array_is ∙ no_item l.items (index_of k) past

  module _ (i : ℕ) (at : index_of k ≡ Some i) where
    item_step : step (tree e) k ≡ nth (items_tree l.items) i
    item_step = ap (λ t. step t k) array_is ∙ ap (item_of (items_tree l.items)) at

    pub item_gone : length l.items ≤ i → step (tree e) k ≡ None
    item_gone past = item_step ∙ nth_past l.items i past

    pub item_found : (b : Item) → i < length l.items → b ≡ get_or l.items i b → step (tree e) k ≡ Some (item_tree b)
    item_found b within is = item_step ∙ nth_there l.items i b within is

-- ---- a step into an object

module _ (e : Edited) (m : EditedMap) (is_object : e ≡ is.Object m) (bs : List ℕ) (u : IsUtf8 bs) where
  pub member_step : step (tree e) (chars bs) ≡ option_map tree (get_by (cmp_to bs) m)
  member_step = ap (λ t. step t (chars bs)) (ap tree is_object ∙ tree_Object m) ∙ find_members bs u m.entries

-- ---- items that are put into an array, or taken out of it

pub not_placed : (es : List Item) (k : List ℕ) (u : Tree) (n : ℕ) → n ≡ length es → ((i : ℕ) → insertion_index n k ≡ Some i → n < i)
    → with_child (array (items_tree es)) k u ≡ None
not_placed es k u n e h =
    ap (λ m. option_map array (option_and_then (λ i. with_item_before (items_tree es) i u) (insertion_index m k))) (count_tree es ∙ sym e)
    ∙ by (insertion_index n k) refl
  where
    by : (o : Option ℕ) → insertion_index n k ≡ o → option_map array (option_and_then (λ i. with_item_before (items_tree es) i u) o) ≡ None
    by None at = refl
    by (Some i) at = let past : n < i = h i at in ap (option_map array) (none_inserted es i u (omega arith))

placed : (es fs : List Item) (k : List ℕ) (e : Item) (n i : ℕ) → n ≡ length es → insertion_index n k ≡ Some i → i ≤ n
    → fs ≡ insert es i e → with_child (array (items_tree es)) k (item_tree e) ≡ Some (array (items_tree fs))
placed es fs k e n i same at within is =
    ap (λ m. option_map array (option_and_then (λ j. with_item_before (items_tree es) j (item_tree e)) (insertion_index m k))) (count_tree es ∙ sym same)
    ∙ (ap (λ o. option_map array (option_and_then (λ j. with_item_before (items_tree es) j (item_tree e)) o)) at
    ∙ (ap (option_map array) (items_inserted es i e (omega arith)) ∙ ap (λ xs. Some (array (items_tree xs))) (sym is)))

pub placed_of : (es fs : List Item) (k : List ℕ) (b : Item) (e : Edited) (n i : ℕ) → n ≡ length es → insertion_index n k ≡ Some i → i ≤ n
    → fs ≡ insert es i b → item_tree b ≡ tree e → with_child (array (items_tree es)) k (tree e) ≡ Some (array (items_tree fs))
placed_of es fs k b e n i same at within is held =
    ap (with_child (array (items_tree es)) k) (sym held) ∙ placed es fs k b n i same at within is

pub no_removal : (es : List Item) (k : List ℕ) → ((i : ℕ) → index_of k ≡ Some i → length es ≤ i)
    → without_child (array (items_tree es)) k ≡ None
no_removal es k h = ap (option_map (λ u. without_step (array (items_tree es)) k)) (no_item es (index_of k) h)

removal : (es fs : List Item) (k : List ℕ) (i : ℕ) (old : Item) → index_of k ≡ Some i → i < length es
    → old ≡ get_or es i old → fs ≡ remove es i
    → (step (array (items_tree es)) k ≡ Some (item_tree old)) × (without_child (array (items_tree es)) k ≡ Some (array (items_tree fs)))
removal es fs k i old at within is e =
    let there : step (array (items_tree es)) k ≡ Some (item_tree old) = ap (item_of (items_tree es)) at
    ∙ (nth_tree es i ∙ ap (option_map item_tree) (at_index es i old within is)) in (
      there,
      ap (option_map (λ u. without_step (array (items_tree es)) k)) there
          ∙ ap (λ xs. Some (array xs)) (ap (without_item (items_tree es)) at ∙ (items_removed es i within ∙ ap items_tree (sym e))),
    )

pub removal_of : (es fs : List Item) (k : List ℕ) (i : ℕ) (old : Item) (e : Edited) → index_of k ≡ Some i → i < length es
    → old ≡ get_or es i old → fs ≡ remove es i → tree e ≡ item_tree old
    → (step (array (items_tree es)) k ≡ Some (tree e)) × (without_child (array (items_tree es)) k ≡ Some (array (items_tree fs)))
removal_of es fs k i old e at within is out same =
    let r = removal es fs k i old at within is out in (r.0 ∙ ap Some (sym same), r.1)

-- ---- a member of an object

pub member_removal : (m n : EditedMap) (bs : List ℕ) (old : Edited) → IsUtf8 bs → Some old ≡ get_by (cmp_to bs) m
    → ((q : String Global)
    → lookup (is_at (string_cmp q)) n.entries ≡ cond (is_at (cmp_to bs) q) None (lookup (is_at (string_cmp q)) m.entries))
    → (step (object (members_tree m.entries)) (chars bs) ≡ Some (tree old))
    × (without_child (object (members_tree m.entries)) (chars bs) ≡ Some (object (members_tree n.entries)))
member_removal m n bs old u got updates =
    let there : step (object (members_tree m.entries)) (chars bs) ≡ Some (tree old) = find_members bs u m.entries ∙ ap (option_map tree) (sym got) in (
      there,
      ap (option_map (λ t. without_step (object (members_tree m.entries)) (chars bs))) there
          ∙ ap (λ ms. Some (object ms)) (sym (members_removed m.entries n.entries bs u updates)),
    )

pub no_member : (m : EditedMap) (bs : List ℕ) → IsUtf8 bs → None ≡ get_by (cmp_to bs) m
    → step (object (members_tree m.entries)) (chars bs) ≡ None
no_member m bs u got = find_members bs u m.entries ∙ ap (option_map tree) (sym got)

pub no_member_removal : (m : EditedMap) (bs : List ℕ) → IsUtf8 bs → None ≡ get_by (cmp_to bs) m
    → without_child (object (members_tree m.entries)) (chars bs) ≡ None
no_member_removal m bs u got = ap (option_map (λ t. without_step (object (members_tree m.entries)) (chars bs))) (no_member m bs u got)

-- ---- what is moved out, and put back

-- past the end nothing is replaced
pub nothing_set : (ts : Items) (i : ℕ) (u : Tree) → nth ts i ≡ None → with_nth ts i u ≡ ts
nothing_set no_items i u h = refl
nothing_set (item t ts) zero u h = cc
nothing_set (item t ts) (suc i) u h = ap (item t) (nothing_set ts i u h)

pub member_there : (m : EditedMap) (bs : List ℕ) (e : Edited) → IsUtf8 bs → Some e ≡ get_by (cmp_to bs) m
    → find (chars bs) (members_tree m.entries) ≡ Some (tree e)
member_there m bs e u got = find_members bs u m.entries ∙ ap (option_map tree) (sym got)

pub member_put : (m n : EditedMap) (bs : List ℕ) (w : Edited) → IsUtf8 bs → IsSome (get_by (cmp_to bs) m)
    → WritesThrough string_cmp (cmp_to bs) m w n → members_tree n.entries ≡ put (chars bs) (tree w) (members_tree m.entries)
member_put m n bs w u there h = members_written m.entries n.entries bs w u there (h.3 there).0
