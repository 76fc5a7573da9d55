-- Parts that are put into one container, or taken out of it.
use Rattle.std.proofs.Common.{◌≡◌, ◌≤◌, ◌<◌, ◌^◌, ◌&&◌, ℕ, zero, suc, Bool, true, false, cond, bytes_eq, codes, List}
use Rattle.std.proofs.Common.{[], ◌∷◌, length, get_or}
use Rattle.std.proofs.Common.{map, Option, Some, None, option_map, MatchOption, Result, String, Vec, Global, refl, sym}
use Rattle.std.proofs.Common.{ap, ◌∙◌, subst, arith}
use Rattle.std.proofs.Common.{encode_utf8_all, true≢false}
use Rattle.std.proofs.lemmas.Slice.Eq.{bytes_eq-Decides}
use Rattle.std.proofs.lemmas.Str.{encodes-chars, encodes-IsAscii}
use Rattle.std.specs.List.{insert, remove, starts_with}
use Rattle.std.specs.Prelude.{slice_get, option_and_then}
use Rattle.std.specs.Str.{IsUtf8, chars}
use Rattle.std.specs.String.{string_eq}
use Rattle.tinyjson.proofs.Callers.{text_eq, chars_literal, IsAscii_literal, item_count_view, nth_items_view, object_tree, view_Object}
use Rattle.tinyjson.specs.Access.{JsonMap, object_part}
use Rattle.tinyjson.specs.Tree as tree
use Rattle.tinyjson.specs.Tree.{Tree, array, object, Members, no_members, member, find}
use Rattle.tinyjson.specs.View.{view, text, items_view, members_view}
use Rattle.tinyjson.specs.declared.value.JsonValue.{JsonValue}
use Rattle.tinyjson.specs.declared.value.JsonValue.TheVariants as is
use Rattle.tinyjson_pointer.proofs.Changing.{items_inserted, none_inserted, items_removed}
use Rattle.tinyjson_pointer.proofs.Steps.{no_item}
use Rattle.tinyjson_pointer.specs.Change.{insertion_index, with_item_before, with_child, without_child, without_item, without_step}
use Rattle.tinyjson_pointer.specs.Change.{Inserts, Removes}
use Rattle.tinyjson_pointer.specs.Index.{index_of}
use Rattle.tinyjson_pointer.specs.Tokens.{begins_with}
use Rattle.tinyjson_pointer.specs.Walk.{step, item_of}
use Rattle.tinyjson_pointer.specs.declared.change.InsertError.{InsertError}

pub begins : (xs ys : List (String Global)) → starts_with string_eq xs ys ≡ begins_with (map text xs) (map text ys)
begins xs [] = refl
begins [] (y ∷ ys) = refl
begins (x ∷ xs) (y ∷ ys) =
    ap (λ b. b && starts_with string_eq xs ys) (sym (text_eq y x)) ∙ ap (λ b. bytes_eq (text y) (text x) && b) (begins xs ys)

-- ---- the place that a token names in an array

pub dash_place : (bs : List ℕ) (count : ℕ) → bytes_eq bs (codes "-") ≡ true → insertion_index count (chars bs) ≡ Some count
dash_place bs count h =
    ap (λ b. cond b (Some count) (index_of (chars bs))) ((bytes_eq-Decides (chars bs) (codes "-")).1
    (ap chars ((bytes_eq-Decides bs (codes "-")).0 h) ∙ chars_literal (codes "-") refl))

other_place : (bs : List ℕ) (count : ℕ) → IsUtf8 bs → bytes_eq bs (codes "-") ≡ false → insertion_index count (chars bs) ≡ index_of (chars bs)
other_place bs count u h = by (bytes_eq (chars bs) (codes "-")) refl
  where
    by : (b : Bool) → bytes_eq (chars bs) (codes "-") ≡ b → cond b (Some count) (index_of (chars bs)) ≡ index_of (chars bs)
    by true e =
        let same : bs ≡ codes "-" = sym (encodes-chars bs u)
        ∙ (ap encode_utf8_all ((bytes_eq-Decides (chars bs) (codes "-")).0 e)
        ∙ encodes-IsAscii (codes "-") (IsAscii_literal (codes "-") refl)) in
        absurd (true≢false (sym ((bytes_eq-Decides bs (codes "-")).1 same) ∙ h))
    by false e = refl

pub no_place : (bs : List ℕ) (count : ℕ) (r : Option ℕ) → r ≡ None → IsUtf8 bs → bytes_eq bs (codes "-") ≡ false → count < 2 ^ 64
    → ((i : ℕ) → index_of (chars bs) ≡ Some i → 2 ^ 64 ≤ i)
    → MatchOption r ((i : ℕ) → insertion_index count (chars bs) ≡ Some i → count < i) (λ i. (insertion_index count (chars bs) ≡ Some i) × (i ≤ count))
no_place bs count None e u h f n = λ i g. let k : 2 ^ 64 ≤ i = n i (sym (other_place bs count u h) ∙ g) in omega arith
no_place bs count (Some x) e u h f n = cc

-- ---- items

pub not_placed : (vs : List JsonValue) (k : List ℕ) (u : Tree) (n : ℕ) → n ≡ length vs → ((i : ℕ) → insertion_index n k ≡ Some i → n < i)
    → with_child (array (items_view vs)) k u ≡ None
not_placed vs k u n e h =
    ap (λ m. option_map array (option_and_then (λ i. with_item_before (items_view vs) i u) (insertion_index m k))) (item_count_view vs ∙ sym e)
    ∙ by (insertion_index n k) refl
  where
    by : (o : Option ℕ) → insertion_index n k ≡ o → option_map array (option_and_then (λ i. with_item_before (items_view vs) i u) o) ≡ None
    by None at = refl
    by (Some i) at = let past : n < i = h i at in ap (option_map array) (none_inserted vs i u (omega arith))

pub placed : (vs ws : List JsonValue) (k : List ℕ) (v : JsonValue) (n i : ℕ) → n ≡ length vs → insertion_index n k ≡ Some i → i ≤ n
    → ws ≡ insert vs i v → with_child (array (items_view vs)) k (view v) ≡ Some (array (items_view ws))
placed vs ws k v n i e at within is =
    ap (λ m. option_map array (option_and_then (λ j. with_item_before (items_view vs) j (view v))
    (insertion_index m k))) (item_count_view vs ∙ sym e)
    ∙ (ap (λ o. option_map array (option_and_then (λ j. with_item_before (items_view vs) j (view v)) o)) at
    ∙ (ap (option_map array) (items_inserted vs i v (omega arith)) ∙ ap (λ xs. Some (array (items_view xs))) (sym is)))

pub none_removed : (part without : Option Tree) (t t' : Tree) (r : Option JsonValue) → r ≡ None → without ≡ None → t' ≡ t
    → Removes part without t r t'
none_removed part without t t' None e h same = (h, same)
none_removed part without t t' (Some v) e h same = cc

pub no_removal : (l : Vec JsonValue Global) (k : List ℕ) → ((i : ℕ) → index_of k ≡ Some i → length l.items ≤ i)
    → without_child (array (items_view l.items)) k ≡ None
no_removal l k h = ap (option_map (λ u. without_step (array (items_view l.items)) k)) (sym (no_item l (index_of k) h))

pub at_index : (vs : List JsonValue) (i : ℕ) (x : JsonValue) → i < length vs → x ≡ get_or vs i x → slice_get vs i ≡ Some x
at_index [] i x h e = absurd (omega arith)
at_index (v ∷ vs) zero x h e = ap Some (sym e)
at_index (v ∷ vs) (suc i) x h e = at_index vs i x (omega arith) e

pub removal : (vs ws : List JsonValue) (k : List ℕ) (i : ℕ) (old : JsonValue) → index_of k ≡ Some i → i < length vs
    → old ≡ get_or vs i old → ws ≡ remove vs i
    → (step (array (items_view vs)) k ≡ Some (view old)) × (without_child (array (items_view vs)) k ≡ Some (array (items_view ws)))
removal vs ws k i old at within is e =
    let there : step (array (items_view vs)) k ≡ Some (view old) = ap (item_of (items_view vs)) at
    ∙ (nth_items_view vs i ∙ ap (option_map view) (at_index vs i old within is)) in (
      there,
      ap (option_map (λ u. without_step (array (items_view vs)) k)) there
          ∙ ap (λ xs. Some (array xs)) (ap (without_item (items_view vs)) at ∙ (items_removed vs i within ∙ ap items_view (sym e))),
    )

-- ---- members

pub into_object : (v : JsonValue) (m n : JsonMap) (k : List ℕ) (u : Tree) (r : Result (Unit {0}) InsertError) → Some m ≡ object_part v
    → Inserts (with_child (object (members_view m.entries)) k u) (object (members_view m.entries)) r (object (members_view n.entries))
    → Inserts (with_child (view v) k u) (view v) r (view (is.Object n))
into_object v m n k u r held h =
    subst (λ t. Inserts (with_child t k u) t r (view (is.Object n))) (sym (object_tree v m (sym held)))
    (subst (Inserts (with_child (object (members_view m.entries)) k u) (object (members_view m.entries)) r) (sym (view_Object n)) h)

remove_none : (k : List ℕ) (ms : Members) → find k ms ≡ None → tree.remove k ms ≡ ms
remove_none k no_members h = refl
remove_none k (member l u ms) h = by (bytes_eq k l) h (remove_none k ms)
  where
    by : (b : Bool) → cond b (Some u) (find k ms) ≡ None → (find k ms ≡ None → tree.remove k ms ≡ ms)
        → cond b (tree.remove k ms) (member l u (tree.remove k ms)) ≡ member l u ms
    by true e later = cc
    by false e later = ap (member l u) (later e)

pub out_of_object : (v : JsonValue) (m n : JsonMap) (k : List ℕ) (r : Option JsonValue) → Some m ≡ object_part v
    → option_map view r ≡ find k (members_view m.entries) → members_view n.entries ≡ tree.remove k (members_view m.entries)
    → Removes (step (view v) k) (without_child (view v) k) (view v) r (view (is.Object n))
out_of_object v m n k r held old new =
    subst (λ t. Removes (step t k) (without_child t k) t r (view (is.Object n))) (sym (object_tree v m (sym held)))
    (subst (Removes (find k ms) (without_child (object ms) k) (object ms) r) (sym (view_Object n ∙ ap object new)) (by r old))
  where
    ms : Members
    ms = members_view m.entries

    by : (o : Option JsonValue) → option_map view o ≡ find k ms
        → Removes (find k ms) (without_child (object ms) k) (object ms) o (object (tree.remove k ms))
    by None e = (ap (option_map (λ u. object (tree.remove k ms))) (sym e), ap object (remove_none k ms (sym e)))
    by (Some x) e = (sym e, ap (option_map (λ u. object (tree.remove k ms))) (sym e))
