-- A map's entries, in the order of their keys, and the members that they stand for.
use Rattle.std.proofs.Common.{◌≡◌, ℕ, Bool, true, false, List, [], ◌∷◌, Option, Some, None, Ordering, Less, Equal, Greater, cond}
use Rattle.std.proofs.Common.{◌⊎◌, inl, inr, bytes_eq, String, Global, string_bytes, option_map, refl, sym, ap, ◌∙◌, subst}
use Rattle.std.proofs.lemmas.Map.Keys.{sorted_head, sorted_tail}
use Rattle.std.proofs.lemmas.Slice.Eq.{bytes_eq-Decides}
use Rattle.std.proofs.lemmas.Str.{encodes-chars, IsUtf8-string_bytes}
use Rattle.std.specs.BTreeMap.{is_at}
use Rattle.std.specs.Cmp.Lexicographic.{slice_cmp}
use Rattle.std.specs.List.Sorted.{IsStrictlySortedBy}
use Rattle.std.specs.Map.{keys_of, lookup}
use Rattle.std.specs.Option.{IsSome}
use Rattle.std.specs.Ordering.{nat_cmp, is_eq}
use Rattle.std.specs.Str.{IsUtf8, chars, encode_utf8_all}
use Rattle.std.specs.String.{string_cmp}
use Rattle.tinyjson.proofs.Callers.{find_put, find_remove, members_from_find, sorted_put, sorted_remove}
use Rattle.tinyjson_grammar.proofs.Callers.{key_same}
use Rattle.tinyjson_grammar.specs.Characters.{text}
use Rattle.tinyjson_grammar.specs.Soundness.{IsBelow, IsSorted}
use Rattle.tinyjson_grammar.specs.Tree.{Tree, Members, no_members, member, key_cmp, put, put_at, find, remove}
use Rattle.tinyjson_patch.proofs.Beside.{itself}
use Rattle.tinyjson_patch.specs.private.Edited.{tree, members_tree}
use Rattle.tinyjson_patch.specs.private.Writing.{listed}
use Rattle.tinyjson_patch.specs.declared.edit.edited.Edited.{Edited}

abbrev pub Entry : Type 0
Entry = String Global × Edited

abbrev pub cmp_to : List ℕ → String Global → Ordering
cmp_to bs k = slice_cmp nat_cmp bs (string_bytes k)

-- keys compare as their bytes
cmp_is : (bs : List ℕ) (k : String Global) → IsUtf8 bs → key_cmp (chars bs) (text k) ≡ cmp_to bs k
cmp_is bs k u =
    ap (λ x. slice_cmp nat_cmp x (encode_utf8_all (text k))) (encodes-chars bs u)
    ∙ ap (slice_cmp nat_cmp bs) (encodes-chars (string_bytes k) (IsUtf8-string_bytes k))

key_cmp_is : (k l : String Global) → key_cmp (text k) (text l) ≡ string_cmp k l
key_cmp_is k l = cmp_is (string_bytes k) l (IsUtf8-string_bytes k)

-- what is compared as equal is the same key
eq_is : (k l : List ℕ) (o : Ordering) → key_cmp k l ≡ o → bytes_eq k l ≡ is_eq o
eq_is k l o e = by o e (bytes_eq k l) refl
  where
    by : (p : Ordering) → key_cmp k l ≡ p → (b : Bool) → bytes_eq k l ≡ b → bytes_eq k l ≡ is_eq p
    by Equal e b f = (bytes_eq-Decides k l).1 (key_same k l e)
    by Less e false f = f
    by Less e true f = let g : Less ≡ Equal = sym e ∙ ap (key_cmp k) (sym ((bytes_eq-Decides k l).0 f)) ∙ itself k in cc
    by Greater e false f = f
    by Greater e true f = let g : Greater ≡ Equal = sym e ∙ ap (key_cmp k) (sym ((bytes_eq-Decides k l).0 f)) ∙ itself k in cc

key_at : (bs : List ℕ) (k : String Global) → IsUtf8 bs → bytes_eq (chars bs) (text k) ≡ is_at (cmp_to bs) k
key_at bs k u = eq_is (chars bs) (text k) (cmp_to bs k) (cmp_is bs k u)

-- ---- what a map has at a key

pub tree_if : (b : Bool) (v : Edited) (p : Option Tree) (q : Option Edited) → p ≡ option_map tree q
    → cond b (Some (tree v)) p ≡ option_map tree (cond b (Some v) q)
tree_if true v p q e = refl
tree_if false v p q e = e

pub find_members : (bs : List ℕ) → IsUtf8 bs → (es : List Entry)
    → find (chars bs) (members_tree es) ≡ option_map tree (lookup (is_at (cmp_to bs)) es)
find_members bs u [] = refl
find_members bs u (e ∷ es) =
    find_put (chars bs) (text e.0) (tree e.1) (members_tree es)
    ∙ (ap (λ b. cond b (Some (tree e.1)) (find (chars bs) (members_tree es))) (key_at bs e.0 u)
    ∙ tree_if (is_at (cmp_to bs) e.0) e.1 _ _ (find_members bs u es))

find_text : (k : String Global) (es : List Entry) → find (text k) (members_tree es) ≡ option_map tree (lookup (is_at (string_cmp k)) es)
find_text k es = find_members (string_bytes k) (IsUtf8-string_bytes k) es

pub members_sorted : (es : List Entry) → IsSorted (members_tree es)
members_sorted [] = tt
members_sorted (e ∷ es) = sorted_put (text e.0) (tree e.1) (members_tree es) (members_sorted es)

-- a key is found only if it is a text
none_or_text : (q : List ℕ) (es : List Entry) → (find q (members_tree es) ≡ None) ⊎ ((k : String Global) × (q ≡ text k))
none_or_text q [] = inl refl
none_or_text q (e ∷ es) = by (bytes_eq q (text e.0)) refl (none_or_text q es)
  where
    by : (b : Bool) → bytes_eq q (text e.0) ≡ b → (find q (members_tree es) ≡ None) ⊎ ((k : String Global) × (q ≡ text k))
        → (find q (put (text e.0) (tree e.1) (members_tree es)) ≡ None) ⊎ ((k : String Global) × (q ≡ text k))
    by true h r = inr (e.0, (bytes_eq-Decides q (text e.0)).0 h)
    by false h (inl n) =
        inl (find_put q (text e.0) (tree e.1) (members_tree es) ∙ (ap (λ b. cond b (Some (tree e.1)) (find q (members_tree es))) h ∙ n))
    by false h (inr t) = inr t

-- ---- a map after a change

option_map_if : (b : Bool) (o p : Option Edited) → option_map tree (cond b o p) ≡ cond b (option_map tree o) (option_map tree p)
option_map_if true o p = refl
option_map_if false o p = refl

flipped : (k l : List ℕ) (b c : Bool) → bytes_eq k l ≡ b → bytes_eq l k ≡ c → b ≡ c
flipped k l true true e f = refl
flipped k l false false e f = refl
flipped k l true false e f = let g : bytes_eq l k ≡ true = (bytes_eq-Decides l k).1 (sym ((bytes_eq-Decides k l).0 e)) in cc
flipped k l false true e f = let g : bytes_eq k l ≡ true = (bytes_eq-Decides k l).1 (sym ((bytes_eq-Decides l k).0 f)) in cc

-- A map with o at the key whose bytes are bs, and at other keys what it had, is any sorted members with the same finds.
module _ (old new : List Entry) (bs : List ℕ) (o : Option Edited) (ms : Members) (u : IsUtf8 bs)
    (updates : (q : String Global)
    → lookup (is_at (string_cmp q)) new ≡ cond (is_at (cmp_to bs) q) o (lookup (is_at (string_cmp q)) old))
    (finds : (q : List ℕ) → find q ms ≡ cond (bytes_eq q (chars bs)) (option_map tree o) (find q (members_tree old)))
    (absent : find (chars bs) (members_tree old) ≡ None → o ≡ None) where
  here : (k : String Global) → is_at (cmp_to bs) k ≡ bytes_eq (text k) (chars bs)
  here k = sym (key_at bs k u) ∙ flipped (chars bs) (text k) _ _ refl refl

  changed_key : (k : String Global) → find (text k) (members_tree new) ≡ find (text k) ms
  changed_key k =
      find_text k new
      ∙ (ap (option_map tree) (updates k)
      ∙ (option_map_if (is_at (cmp_to bs) k) o (lookup (is_at (string_cmp k)) old)
      ∙ (ap (λ b. cond b (option_map tree o) (option_map tree (lookup (is_at (string_cmp k)) old))) (here k)
      ∙ (ap (cond (bytes_eq (text k) (chars bs)) (option_map tree o)) (sym (find_text k old)) ∙ sym (finds (text k))))))

  not_there : (q : List ℕ) → find q (members_tree old) ≡ None → find q ms ≡ None
  not_there q n = finds q ∙ by (bytes_eq q (chars bs)) refl
    where
      by : (b : Bool) → bytes_eq q (chars bs) ≡ b → cond b (option_map tree o) (find q (members_tree old)) ≡ None
      by true e = ap (option_map tree) (absent (ap (λ k. find k (members_tree old)) (sym ((bytes_eq-Decides q (chars bs)).0 e)) ∙ n))
      by false e = n

  changes : IsSorted ms → members_tree new ≡ ms
  changes sorted = members_from_find (members_tree new) ms (members_sorted new) sorted
      (λ q. by q (none_or_text q old) (none_or_text q new))
    where
      at : (q : List ℕ) → (k : String Global) × (q ≡ text k) → find q (members_tree new) ≡ find q ms
      at q t = subst (λ x. find x (members_tree new) ≡ find x ms) (sym t.1) (changed_key t.0)

      by : (q : List ℕ) → (find q (members_tree old) ≡ None) ⊎ ((k : String Global) × (q ≡ text k))
          → (find q (members_tree new) ≡ None) ⊎ ((k : String Global) × (q ≡ text k)) → find q (members_tree new) ≡ find q ms
      by q (inr t) r = at q t
      by q (inl n) (inr t) = at q t
      by q (inl n) (inl m) = m ∙ sym (not_there q n)

nothing : (o : Option Edited) → IsSome o → option_map tree o ≡ None → ⊥
nothing (Some v) s h = cc
nothing None s h = cc

-- v was written at a key that the map has
pub members_written : (old new : List Entry) (bs : List ℕ) (v : Edited) → IsUtf8 bs → IsSome (lookup (is_at (cmp_to bs)) old)
    → ((q : String Global)
    → lookup (is_at (string_cmp q)) new ≡ cond (is_at (cmp_to bs) q) (Some v) (lookup (is_at (string_cmp q)) old))
    → members_tree new ≡ put (chars bs) (tree v) (members_tree old)
members_written old new bs v u there updates =
    changes old new bs (Some v) (put (chars bs) (tree v) (members_tree old)) u updates
    (λ q. find_put q (chars bs) (tree v) (members_tree old)) (λ n. absurd (nothing _ there (sym (find_members bs u old) ∙ n)))
    (sorted_put (chars bs) (tree v) (members_tree old) (members_sorted old))

-- the entry at a key was removed
pub members_removed : (old new : List Entry) (bs : List ℕ) → IsUtf8 bs
    → ((q : String Global)
    → lookup (is_at (string_cmp q)) new ≡ cond (is_at (cmp_to bs) q) None (lookup (is_at (string_cmp q)) old))
    → members_tree new ≡ remove (chars bs) (members_tree old)
members_removed old new bs u updates =
    changes old new bs None (remove (chars bs) (members_tree old)) u updates
    (λ q. find_remove q (chars bs) (members_tree old)) (λ n. refl)
    (sorted_remove (chars bs) (members_tree old) (members_sorted old))

-- v was inserted at k, whether the map had the key or not
pub members_inserted : (old new : List Entry) (k : String Global) (v : Edited)
    → ((q : String Global)
    → lookup (is_at (string_cmp q)) new ≡ cond (is_at (string_cmp k) q) (Some v) (lookup (is_at (string_cmp q)) old))
    → members_tree new ≡ put (text k) (tree v) (members_tree old)
members_inserted old new k v updates =
    members_from_find (members_tree new) (put (text k) (tree v) (members_tree old)) (members_sorted new)
    (sorted_put (text k) (tree v) (members_tree old) (members_sorted old))
    (λ q. by q (none_or_text q ((k, v) ∷ old)) (none_or_text q new))
  where
    at : (q : List ℕ) → (l : String Global) × (q ≡ text l) → find q (members_tree new) ≡ find q (members_tree ((k, v) ∷ old))
    at q t = subst (λ x. find x (members_tree new) ≡ find x (members_tree ((k, v) ∷ old))) (sym t.1)
        (find_text t.0 new ∙ (ap (option_map tree) (updates t.0
        ∙ ap (λ b. cond b (Some v) (lookup (is_at (string_cmp t.0)) old))
        (sym (key_at (string_bytes k) t.0 (IsUtf8-string_bytes k)) ∙ (flipped (text k) (text t.0) _ _ refl refl
        ∙ key_at (string_bytes t.0) k (IsUtf8-string_bytes t.0)))) ∙ sym (find_text t.0 ((k, v) ∷ old))))

    by : (q : List ℕ) → (find q (members_tree ((k, v) ∷ old)) ≡ None) ⊎ ((l : String Global) × (q ≡ text l))
        → (find q (members_tree new) ≡ None) ⊎ ((l : String Global) × (q ≡ text l))
        → find q (members_tree new) ≡ find q (members_tree ((k, v) ∷ old))
    by q (inr t) r = at q t
    by q (inl n) (inr t) = at q t
    by q (inl n) (inl m) = m ∙ sym n

-- ---- a map's entries in their order

below_first : (k : String Global) (es : List Entry) → IsStrictlySortedBy string_cmp (k ∷ keys_of es) → IsBelow (text k) (listed es)
below_first k [] s = tt
below_first k (e ∷ es) s = key_cmp_is k e.0 ∙ (sorted_head string_cmp k (keys_of (e ∷ es)) s).0

pub listed_sorted : (es : List Entry) → IsStrictlySortedBy string_cmp (keys_of es) → IsSorted (listed es)
listed_sorted [] s = tt
listed_sorted (e ∷ es) s = (below_first e.0 es s, listed_sorted es (sorted_tail string_cmp e.0 (keys_of es) s))

put_first : (k : List ℕ) (t : Tree) (ms : Members) → IsBelow k ms → put k t ms ≡ member k t ms
put_first k t no_members b = refl
put_first k t (member l u ms) b = ap (λ o. put_at o k t l u ms (put k t ms)) b

-- in their order they are the members
pub members_are_listed : (es : List Entry) → IsStrictlySortedBy string_cmp (keys_of es) → members_tree es ≡ listed es
members_are_listed [] s = refl
members_are_listed (e ∷ es) s =
    ap (put (text e.0) (tree e.1)) (members_are_listed es (sorted_tail string_cmp e.0 (keys_of es) s))
    ∙ put_first (text e.0) (tree e.1) (listed es) (below_first e.0 es s)
