-- A value, and a map's entries, beside the trees that they stand for.
use Rattle.std.proofs.Common.{◌≡◌, rules, Vec, Bool, true, false, ℕ, List, [], ◌∷◌, ◌++◌, Bor, bytes_eq, string_bytes, Option, Some, None}
use Rattle.std.proofs.Common.{cond, is_some, option_map, String, Global, ◌⊎◌, inl, inr, true≢false, refl, sym, ap, ◌∙◌, subst}
use Rattle.std.proofs.lemmas.Bool.Decides.{same_from_decides}
use Rattle.std.proofs.lemmas.Slice.Eq.{bytes_eq-Decides}
use Rattle.std.proofs.lemmas.Str.{encodes-chars, IsUtf8-string_bytes}
use Rattle.std.specs.Str.{IsUtf8, chars, encode_utf8_all}
use Rattle.std.specs.List.{AllByRecursion, IsDistinct}
use Rattle.std.specs.Map.{lookup, keys_of}
use Rattle.std.specs.Prelude.{IsSome}
use Rattle.std.specs.String.{string_eq, string_eq_equiv}
use Rattle.tinyjson.proofs.Values.Entries.{members_from_lookups, members_of_sorted, find_members_of, None_or_text}
use Rattle.tinyjson_grammar.proofs.Callers.{cond_swap, find_put, find_remove, sorted_put, sorted_remove, members_from_find}
use Rattle.tinyjson_grammar.specs.Soundness.{IsSorted}
use Rattle.tinyjson_grammar.specs.Tree.{Tree, null, boolean, number, string, array, object, Members, put, find, remove}
use Rattle.tinyjson.specs.Access.{JsonMap}
use Rattle.tinyjson.specs.View.{text, view, seen_entries, items_view, members_view}
use Rattle.tinyjson.specs.private.Members.{add}
use Rattle.tinyjson.specs.declared.value.JsonValue.{JsonValue, the_lemmas}
use Rattle.tinyjson.specs.declared.value.JsonValue.TheVariants as made
use Rattle.tinyjson_number.specs.declared.number.JsonNumber.{JsonNumber}

-- ---- the tree of each variant

pub view_Null : view made.Null ≡ null
view_Null = search (rules, the_lemmas)

pub view_Boolean : (b : Bool) → view (made.Boolean b) ≡ boolean b
view_Boolean b = search (rules, the_lemmas)

pub view_Number : (n : JsonNumber) → view (made.Number n) ≡ number n.decimal
view_Number n = search (rules, the_lemmas)

pub view_String : (s : String Global) → view (made.String s) ≡ string (text s)
view_String s = search (rules, the_lemmas)

pub view_Array : (v : Vec JsonValue Global) → view (made.Array v) ≡ array (items_view v.items)
view_Array v = search (rules, the_lemmas)

pub view_Object : (m : JsonMap) → view (made.Object m) ≡ object (members_view m.entries)
view_Object m = search (rules, the_lemmas)

-- ---- a map's entries

abbrev pub Entry : Type 0
Entry = String Global × JsonValue

-- an entry's value at a key, as a tree
seen_value : (b : Bool) (v : JsonValue) (p : Option Tree) (q : Option JsonValue) → p ≡ option_map view q
    → cond b (Some (view v)) p ≡ option_map view (cond b (Some v) q)
seen_value true v p q e = refl
seen_value false v p q e = e

pub view_lookup : (k : String Global) (es : List Entry) → lookup (string_eq k) (seen_entries es) ≡ option_map view (lookup (string_eq k) es)
view_lookup k [] = refl
view_lookup k (e ∷ es) = seen_value (string_eq k e.0) e.1 _ _ (view_lookup k es)

-- a map with v at k, and at other keys what it had
pub members_view_updates : (old new : List Entry) (k : String Global) (v : JsonValue)
    → ((q : String Global) → lookup (string_eq q) new ≡ cond (string_eq k q) (Some v) (lookup (string_eq q) old))
    → members_view new ≡ put (text k) (view v) (members_view old)
members_view_updates old new k v h = members_from_lookups (seen_entries new) ((k, view v) ∷ seen_entries old) (λ q.
    let side : cond (string_eq k q) (Some v) (lookup (string_eq q) old) ≡ cond (string_eq q k) (Some v) (lookup (string_eq q) old)
    = ap (λ b. cond b (Some v) (lookup (string_eq q) old)) (string_eq_equiv.symm k q) in
    view_lookup q new ∙ (ap (λ r. option_map view r) (h q ∙ side) ∙ sym (seen_value (string_eq q k) v _ _ (view_lookup q old))))

-- a map with the same values at all keys
pub members_view_same : (old new : List Entry) → ((q : String Global) → lookup (string_eq q) new ≡ lookup (string_eq q) old)
    → members_view new ≡ members_view old
members_view_same old new h = members_from_lookups (seen_entries new) (seen_entries old)
    (λ q. view_lookup q new ∙ (ap (λ r. option_map view r) (h q) ∙ sym (view_lookup q old)))

pub differs_later : (d : String Global) (es : List Entry) (e : Entry) (more : List Entry)
    → AllByRecursion (λ y. string_eq d y ≡ false) (keys_of (es ++ e ∷ more)) → string_eq d e.0 ≡ false
differs_later d [] e more h = h.0
differs_later d (x ∷ es) e more h = differs_later d es e more h.1

lookup_last : (q : String Global) (done : List Entry) (e : Entry) (more : List Entry) → IsDistinct string_eq (keys_of (done ++ e ∷ more))
    → lookup (string_eq q) (done ++ e ∷ []) ≡ cond (string_eq q e.0) (Some e.1) (lookup (string_eq q) done)
unfolding IsDistinct
lookup_last q [] e more h = refl
lookup_last q (d ∷ done) e more h =
    let clash : string_eq q d.0 ≡ true → string_eq q e.0 ≡ true → ⊥
    = λ a b. true≢false (sym b ∙ (string_eq_equiv.congr q d.0 e.0 a ∙ differs_later d.0 done e more h.0)) in
    ap (cond (string_eq q d.0) (Some d.1)) (lookup_last q done e more h.1)
    ∙ cond_swap (string_eq q d.0) (string_eq q e.0) (Some d.1) (Some e.1) (lookup (string_eq q) done) clash

-- one more entry, whose key is new
pub members_view_last : (done : List Entry) (e : Entry) (more : List Entry) → IsDistinct string_eq (keys_of (done ++ e ∷ more))
    → members_view (done ++ e ∷ []) ≡ put (text e.0) (view e.1) (members_view done)
members_view_last done e more h = members_view_updates done (done ++ e ∷ []) e.0 e.1 (λ q.
    lookup_last q done e more h ∙ ap (λ b. cond b (Some e.1) (lookup (string_eq q) done)) (string_eq_equiv.symm q e.0))

-- a borrowed key that is text is found where the map finds it
key_eq : (bs : List ℕ) (k : String Global) → IsUtf8 bs → bytes_eq (chars bs) (text k) ≡ bytes_eq bs (string_bytes k)
key_eq bs k u =
    let both = bytes_eq-Decides (chars bs) (text k) in
    let bytes = bytes_eq-Decides bs (string_bytes k) in
    same_from_decides _ _ both (
      λ e. ap chars (bytes.0 e),
      λ e. bytes.1 (sym (encodes-chars bs u) ∙ (ap encode_utf8_all e ∙ encodes-chars (string_bytes k) (IsUtf8-string_bytes k))),
    )

pub find_members_view : (bs : List ℕ) → IsUtf8 bs → (es : List Entry) → find (chars bs) (members_view es) ≡ option_map view
    (lookup (λ k. bytes_eq bs (string_bytes k)) es)
find_members_view bs u [] = refl
find_members_view bs u (e ∷ es) = find_put (chars bs) (text e.0) (view e.1) (members_view es)
    ∙ (ap (λ b. cond b (Some (view e.1)) (find (chars bs) (members_view es))) (key_eq bs e.0 u)
    ∙ seen_value (bytes_eq bs (string_bytes e.0)) e.1 _ _ (find_members_view bs u es))

option_map_cond : (b : Bool) (o p : Option JsonValue) → option_map view (cond b o p) ≡ cond b (option_map view o) (option_map view p)
option_map_cond true o p = refl
option_map_cond false o p = refl

-- a map with `o` at the key whose bytes are bs, and at other keys what it had, is any sorted members with the same finds
module _ (old new : List Entry) (bs : List ℕ) (o : Option JsonValue) (ms : Members) (u : IsUtf8 bs)
    (updates : (q : String Global) → lookup (string_eq q) new ≡ cond (bytes_eq bs (string_bytes q)) o (lookup (string_eq q) old))
    (finds : (q : List ℕ) → find q ms ≡ cond (bytes_eq q (chars bs)) (option_map view o) (find q (members_view old)))
    (absent : find (chars bs) (members_view old) ≡ None → o ≡ None) where
  key_eq_flip : (k : String Global) → bytes_eq bs (string_bytes k) ≡ bytes_eq (text k) (chars bs)
  key_eq_flip k = sym (key_eq bs k u) ∙ same_from_decides _ _ (bytes_eq-Decides (chars bs) (text k))
      (λ e. sym ((bytes_eq-Decides (text k) (chars bs)).0 e), λ e. (bytes_eq-Decides (text k) (chars bs)).1 (sym e))

  changed_key : (k : String Global) → find (text k) (members_view new) ≡ find (text k) ms
  changed_key k = find_members_of k (seen_entries new)
      ∙ (view_lookup k new
      ∙ (ap (λ r. option_map view r) (updates k)
      ∙ (option_map_cond (bytes_eq bs (string_bytes k)) o (lookup (string_eq k) old)
      ∙ ((λ i. cond (key_eq_flip k i) (option_map view o) (sym (find_members_of k (seen_entries old) ∙ view_lookup k old) i))
      ∙ sym (finds (text k))))))

  not_there : (q : List ℕ) → find q (members_view old) ≡ None → find q ms ≡ None
  not_there q n = finds q ∙ by (bytes_eq q (chars bs)) refl
    where
      by : (b : Bool) → bytes_eq q (chars bs) ≡ b → cond b (option_map view o) (find q (members_view old)) ≡ None
      by true e = ap (λ r. option_map view r) (absent (ap (λ k. find k (members_view old)) (sym ((bytes_eq-Decides q (chars bs)).0 e)) ∙ n))
      by false e = n

  members_view_changes : IsSorted ms → members_view new ≡ ms
  members_view_changes sorted =
      members_from_find (members_view new) ms (members_of_sorted (seen_entries new)) sorted
      (λ q. by q (None_or_text q (seen_entries old)) (None_or_text q (seen_entries new)))
    where
      at : (q : List ℕ) → (k : String Global) × (q ≡ text k) → find q (members_view new) ≡ find q ms
      at q t = subst (λ x. find x (members_view new) ≡ find x ms) (sym t.1) (changed_key t.0)

      by : (q : List ℕ) → (find q (members_view old) ≡ None) ⊎ ((k : String Global) × (q ≡ text k))
          → (find q (members_view new) ≡ None) ⊎ ((k : String Global) × (q ≡ text k)) → find q (members_view new) ≡ find q ms
      by q (inr t) r = at q t
      by q (inl n) (inr t) = at q t
      by q (inl n) (inl m) = m ∙ sym (not_there q n)

none_there : (o : Option JsonValue) → IsSome o → option_map view o ≡ None → ⊥
none_there (Some v) s h = cc
none_there None s h = cc

-- a map with v at a key that it has, and at other keys what it had
pub members_view_writes : (old new : List Entry) (bs : List ℕ) (v : JsonValue) → IsUtf8 bs
    → IsSome (lookup (λ k. bytes_eq bs (string_bytes k)) old)
    → ((q : String Global) → lookup (string_eq q) new ≡ cond (bytes_eq bs (string_bytes q)) (Some v) (lookup (string_eq q) old))
    → members_view new ≡ put (chars bs) (view v) (members_view old)
members_view_writes old new bs v u there updates =
    members_view_changes old new bs (Some v) (put (chars bs) (view v) (members_view old)) u updates
    (λ q. find_put q (chars bs) (view v) (members_view old)) (λ n. absurd (none_there _ there (sym (find_members_view bs u old) ∙ n)))
    (sorted_put (chars bs) (view v) (members_view old) (members_of_sorted (seen_entries old)))

-- a map without the entry at a key, and at other keys what it had
pub members_view_removes : (old new : List Entry) (bs : List ℕ) → IsUtf8 bs
    → ((q : String Global) → lookup (string_eq q) new ≡ cond (bytes_eq bs (string_bytes q)) None (lookup (string_eq q) old))
    → members_view new ≡ remove (chars bs) (members_view old)
members_view_removes old new bs u updates = members_view_changes old new bs None (remove (chars bs) (members_view old)) u updates
    (λ q. find_remove q (chars bs) (members_view old)) (λ n. refl)
    (sorted_remove (chars bs) (members_view old) (members_of_sorted (seen_entries old)))

-- the tree of a reference that may be there
pub view_ref : (r : Option (Bor JsonValue)) → option_map (λ x. view x.now) r ≡ option_map view (option_map (λ x. x.now) r)
view_ref None = refl
view_ref (Some x) = refl

find_text : (k : String Global) (es : List Entry) → find (text k) (members_view es) ≡ option_map view (lookup (string_eq k) es)
find_text k es = find_members_view (string_bytes k) (IsUtf8-string_bytes k) es

-- a map with v at k, which it lacked
pub members_view_added : (old new : List Entry) (k : String Global) (v : JsonValue) → lookup (string_eq k) old ≡ None
    → ((q : String Global) → lookup (string_eq q) new ≡ cond (string_eq k q) (Some v) (lookup (string_eq q) old))
    → members_view new ≡ add (text k) (view v) (members_view old)
members_view_added old new k v none h = members_view_updates old new k v h
    ∙ ap (λ o. cond (is_some o) (members_view old) (put (text k) (view v) (members_view old)))
    (sym (find_text k old ∙ ap (option_map view) none))

-- a map with v at k, which it had there
pub members_view_kept : (old new : List Entry) (k : String Global) (w v : JsonValue) → lookup (string_eq k) old ≡ Some v
    → ((q : String Global) → lookup (string_eq q) new ≡ cond (string_eq k q) (Some v) (lookup (string_eq q) old))
    → members_view new ≡ add (text k) (view w) (members_view old)
members_view_kept old new k w v some h =
    let ms = members_view old in
    let found : find (text k) ms ≡ Some (view v) = find_text k old ∙ ap (option_map view) some in
    let sorted = members_of_sorted (seen_entries old) in
    members_view_updates old new k v h
    ∙ members_from_find _ _ (sorted_put (text k) (view v) ms sorted) sorted
    (λ q. find_put q (text k) (view v) ms ∙ at q (bytes_eq q (text k)) refl found)
    ∙ ap (λ o. cond (is_some o) ms (put (text k) (view w) ms)) (sym found)
  where
    at : (q : List ℕ) (b : Bool) → bytes_eq q (text k) ≡ b → find (text k) (members_view old) ≡ Some (view v)
        → cond b (Some (view v)) (find q (members_view old)) ≡ find q (members_view old)
    at q true e found = sym (ap (λ x. find x (members_view old)) ((bytes_eq-Decides q (text k)).0 e) ∙ found)
    at q false e found = refl
