-- Members that are as many as others and stand among them are the same; and a comparison under way.
use Rattle.std.proofs.Common.{◌≡◌, ℕ, suc, ◌+◌, ◌≤◌, Bool, true, false, ◌&&◌, List, [], ◌∷◌, ◌++◌, length, Option, Some, None, Ordering}
use Rattle.std.proofs.Common.{Less, Equal, Greater, cond, bytes_eq, String, Global, true≢false, refl, sym, ap, ◌∙◌, subst, arith}
use Rattle.std.proofs.Math.Bool.{and_assoc, and_comm}
use Rattle.std.proofs.lemmas.Bool.{and_from, and_parts, and_right}
use Rattle.std.proofs.lemmas.Bool.Decides.{same_from_decides}
use Rattle.std.proofs.lemmas.Map.{lookup-none}
use Rattle.std.proofs.lemmas.Map.Entries.{none_past_head}
use Rattle.std.proofs.lemmas.Slice.Eq.{bytes_eq-Decides}
use Rattle.std.specs.List.{IsDistinct}
use Rattle.std.specs.Map.{keys_of, lookup}
use Rattle.std.specs.Option.{option_eq, option_map}
use Rattle.std.specs.Ordering.{match_ordering}
use Rattle.std.specs.String.{string_eq, string_eq_equiv}
use Rattle.tinyjson.proofs.Values.Entries.{find_members_of, members_of_sorted}
use Rattle.tinyjson_grammar.proofs.Callers.{find_below, find_put, flip, found_first, key_same, members_from_find, same_key, some_none}
use Rattle.tinyjson_grammar.proofs.Callers.{sorted_put}
use Rattle.tinyjson.proofs.Values.View.{Entry, view_lookup}
use Rattle.tinyjson.specs.private.Comparison.{has_entry, has_entries, rest_eq, rests_eq, rest_weight, rests_weight}
use Rattle.tinyjson.specs.Equality.{tree_eq, tree_eq_Decides, items_eq, members_eq, members_eq_Decides}
use Rattle.tinyjson_grammar.specs.Soundness.{IsBelow, IsSorted}
use Rattle.tinyjson_grammar.specs.Tree.{Tree, Members, no_members, member, key_cmp, put, find}
use Rattle.tinyjson.specs.View.{text, view, seen_entries, items_view, members_view}
use Rattle.tinyjson.specs.declared.value.JsonValue.{JsonValue}
use Rattle.tinyjson.specs.declared.value.equality.Rest.{Rest}

-- items of two lengths differ
pub apart_items : (vs ws : List JsonValue) → (length vs ≡ length ws → ⊥) → false ≡ items_eq (items_view vs) (items_view ws)
apart_items [] [] h = absurd (h refl)
apart_items [] (w ∷ ws) h = refl
apart_items (v ∷ vs) [] h = refl
apart_items (v ∷ vs) (w ∷ ws) h = sym (and_right (tree_eq (view v) (view w)) _ (sym (apart_items vs ws (λ e. h (ap suc e)))))

-- ---- members among others

abbrev count : Members → ℕ
count no_members = 0
count (member k t ms) = 1 + count ms

abbrev Within : Members → Members → Type 0
Within ms ns = (q : List ℕ) (t : Tree) → find q ms ≡ Some t → find q ns ≡ Some t

-- what is found is not the key of a member before
not_first : (k q : List ℕ) (t : Tree) (ms : Members) → IsBelow k ms → IsSorted ms → find q ms ≡ Some t → bytes_eq q k ≡ false
not_first k q t ms below sorted h = by (bytes_eq q k) refl
  where
    by : (b : Bool) → bytes_eq q k ≡ b → b ≡ false
    by false e = refl
    by true e = absurd (some_none t (sym h ∙ (ap (λ x. find x ms) ((bytes_eq-Decides q k).0 e) ∙ find_below k ms below sorted)))

past_first : (k q : List ℕ) (u : Tree) (ms : Members) → bytes_eq q k ≡ false → find q (member k u ms) ≡ find q ms
past_first k q u ms e = ap (λ b. cond b (Some u) (find q ms)) e

Within_count : (ms ns : Members) → IsSorted ms → IsSorted ns → Within ms ns → count ms ≤ count ns
Within_count no_members ns s r h = omega arith
Within_count (member k t ms) no_members s r h = absurd (some_none t (sym (h k t (found_first k t ms))))
Within_count (member k t ms) (member l u ns) s r h = by (key_cmp k l) refl (Within_count ms ns s.1 r.1)
    (Within_count (member k t ms) ns s r.1)
  where
    by : (o : Ordering) → key_cmp k l ≡ o → (Within ms ns → count ms ≤ count ns) → (Within (member k t ms) ns → 1 + count ms ≤ count ns)
        → 1 + count ms ≤ 1 + count ns
    by Less e tails all = absurd (some_none t (sym (h k t (found_first k t ms)) ∙ find_below k (member l u ns) e r))
    by Equal e tails all =
        let le = tails (λ q x g.
        let apart = not_first k q x ms s.0 s.1 g in
        sym (past_first l q u ns (ap (λ y. bytes_eq q y) (sym (key_same k l e)) ∙ apart)) ∙ h q x (past_first k q t ms apart ∙ g)) in
        omega (arith, le)
    by Greater e tails all =
        let le = all (λ q x g. sym (past_first l q u ns (not_first l q x (member k t ms) (flip k l e) s g)) ∙ h q x g) in
        omega (arith, le)

count_put_le : (k : List ℕ) (t : Tree) (ms : Members) → count (put k t ms) ≤ 1 + count ms
count_put_le k t no_members = omega arith
count_put_le k t (member l u ms) = by (key_cmp k l) (count_put_le k t ms)
  where
    by : (o : Ordering) → count (put k t ms) ≤ 1 + count ms → count (match_ordering o (member k t (member l u ms)) (member k t ms)
        (member l u (put k t ms))) ≤ 1 + (1 + count ms)
    by Less le = omega arith
    by Equal le = omega arith
    by Greater le = omega (arith, le)

count_put_new : (k : List ℕ) (t : Tree) (ms : Members) → find k ms ≡ None → count (put k t ms) ≡ 1 + count ms
count_put_new k t no_members h = omega arith
count_put_new k t (member l u ms) h = by (key_cmp k l) refl (bytes_eq k l) refl (count_put_new k t ms)
  where
    by : (o : Ordering) → key_cmp k l ≡ o → (b : Bool) → bytes_eq k l ≡ b → (find k ms ≡ None → count (put k t ms) ≡ 1 + count ms)
        → count (match_ordering o (member k t (member l u ms)) (member k t ms) (member l u (put k t ms))) ≡ 1 + (1 + count ms)
    by Less e b d rest = omega arith
    by Equal e true d rest = absurd (some_none u (sym (ap (λ x. cond x (Some u) (find k ms)) d) ∙ h))
    by Equal e false d rest = absurd (true≢false (sym (same_key k) ∙ (ap (λ x. bytes_eq k x) (key_same k l e) ∙ d)))
    by Greater e true d rest = absurd (some_none u (sym (ap (λ x. cond x (Some u) (find k ms)) d) ∙ h))
    by Greater e false d rest = let here = rest (sym (past_first l k u ms d) ∙ h) in omega (arith, here)

Within_same : (ms ns : Members) → IsSorted ms → IsSorted ns → Within ms ns → count ns ≤ count ms → ms ≡ ns
Within_same ms ns s r h le = members_from_find ms ns s r (λ q. by q (find q ms) refl (find q ns) refl)
  where
    more : (q : List ℕ) (u : Tree) → find q ns ≡ Some u → Within (put q u ms) ns
    more q u f x t g = at (bytes_eq x q) refl
      where
        at : (b : Bool) → bytes_eq x q ≡ b → find x ns ≡ Some t
        at true e = ap (λ y. find y ns) ((bytes_eq-Decides x q).0 e) ∙
            (f ∙ (sym (ap (λ b. cond b (Some u) (find x ms)) e) ∙ (sym (find_put x q u ms) ∙ g)))
        at false e = h x t (sym (ap (λ b. cond b (Some u) (find x ms)) e) ∙ (sym (find_put x q u ms) ∙ g))

    by : (q : List ℕ) (o : Option Tree) → find q ms ≡ o → (p : Option Tree) → find q ns ≡ p → find q ms ≡ find q ns
    by q (Some t) e p f = e ∙ sym (h q t e)
    by q None e None f = e ∙ sym f
    by q None e (Some u) f =
        let a = Within_count (put q u ms) ns (sorted_put q u ms s) r (more q u f) in
        let b = count_put_new q u ms e in
        absurd (omega (arith, a, b, le))

-- ---- entries among members

-- the key of an entry is not among the later ones
fresh : (e : Entry) (es : List Entry) → IsDistinct string_eq (keys_of (e ∷ es)) → find (text e.0) (members_view es) ≡ None
fresh e es h = find_members_of e.0 (seen_entries es)
    ∙ (view_lookup e.0 es ∙ ap (option_map view) (lookup-none (string_eq e.0) es
    (none_past_head string_eq_equiv e.0 e es h (string_eq_equiv.refl e.0))))

count_entries_le : (es : List Entry) → count (members_view es) ≤ length es
count_entries_le [] = omega arith
count_entries_le (e ∷ es) = omega (arith, count_put_le (text e.0) (view e.1) (members_view es), count_entries_le es)

count_entries : (es : List Entry) → IsDistinct string_eq (keys_of es) → count (members_view es) ≡ length es
unfolding IsDistinct
count_entries [] h = refl
count_entries (e ∷ es) h = omega (arith, count_put_new (text e.0) (view e.1) (members_view es) (fresh e es h), count_entries es h.1)

has_found : (t : Tree) (o : Option Tree) → option_eq tree_eq (Some t) o ≡ true → o ≡ Some t
has_found t None h = absurd (true≢false (sym h))
has_found t (Some u) h = ap (λ (x : Tree). Some x) (sym ((tree_eq_Decides t u).0 h))

found_has : (t : Tree) (o : Option Tree) → o ≡ Some t → option_eq tree_eq (Some t) o ≡ true
found_has t o e = ap (option_eq tree_eq (Some t)) e ∙ (tree_eq_Decides t t).1 refl

Within_entries : (es : List Entry) (ns : Members) → has_entries ns es ≡ true → Within (members_view es) ns
Within_entries [] ns h q t g = absurd (some_none t (sym g))
Within_entries (e ∷ es) ns h q t g = by (bytes_eq q (text e.0)) refl (Within_entries es ns (and_parts (has_entry ns e) _ h).1 q t)
  where
    g' : cond (bytes_eq q (text e.0)) (Some (view e.1)) (find q (members_view es)) ≡ Some t
    g' = sym (find_put q (text e.0) (view e.1) (members_view es)) ∙ g

    by : (b : Bool) → bytes_eq q (text e.0) ≡ b → (find q (members_view es) ≡ Some t → find q ns ≡ Some t) → find q ns ≡ Some t
    by true d rest = ap (λ x. find x ns) ((bytes_eq-Decides q (text e.0)).0 d)
        ∙ (has_found (view e.1) (find (text e.0) ns) (and_parts (has_entry ns e) _ h).0
        ∙ (sym (ap (λ b. cond b (Some (view e.1)) (find q (members_view es))) d) ∙ g'))
    by false d rest = rest (sym (ap (λ b. cond b (Some (view e.1)) (find q (members_view es))) d) ∙ g')

entries_Within : (es : List Entry) (ns : Members) → IsDistinct string_eq (keys_of es) → Within (members_view es) ns
    → has_entries ns es ≡ true
unfolding IsDistinct
entries_Within [] ns d w = refl
entries_Within (e ∷ es) ns d w =
    let key = text e.0 in
    let more = members_view es in
    let here = w key (view e.1) (find_put key key (view e.1) more ∙ ap (λ b. cond b (Some (view e.1)) (find key more)) (same_key key)) in
    and_from (has_entry ns e) _ (found_has (view e.1) (find key ns) here) (entries_Within es ns d.1 (λ q t g. w q t (onto q t g)))
  where
    onto : (q : List ℕ) (t : Tree) → find q (members_view es) ≡ Some t → find q (put (text e.0) (view e.1) (members_view es)) ≡ Some t
    onto q t g = find_put q (text e.0) (view e.1) (members_view es) ∙ (by (bytes_eq q (text e.0)) refl ∙ g)
      where
        by : (b : Bool) → bytes_eq q (text e.0) ≡ b → cond b (Some (view e.1)) (find q (members_view es)) ≡ find q (members_view es)
        by false x = refl
        by true x = absurd (some_none t (sym g ∙ (ap (λ y. find y (members_view es)) ((bytes_eq-Decides q (text e.0)).0 x) ∙ fresh e es d)))

module _ (es fs : List Entry) (d : IsDistinct string_eq (keys_of es)) where
  pub same_entries : length es ≡ length fs → has_entries (members_view fs) es ≡ members_eq (members_view es) (members_view fs)
  same_entries same =
      let le : count (members_view fs) ≤ count (members_view es) = omega (arith, same, count_entries_le fs, count_entries es d) in
      same_from_decides _ _ (
        λ h. Within_same (members_view es) (members_view fs) (members_of_sorted (seen_entries es)) (members_of_sorted (seen_entries fs))
            (Within_entries es (members_view fs) h) le,
        λ e. entries_Within es (members_view fs) d (subst (λ ms. Within (members_view es) ms) e (λ q t g. g)),
      )
      (members_eq_Decides (members_view es) (members_view fs))

  -- objects of two lengths differ
  pub apart_entries : IsDistinct string_eq (keys_of fs) → (length es ≡ length fs → ⊥)
      → false ≡ members_eq (members_view es) (members_view fs)
  apart_entries f differ = by (members_eq (members_view es) (members_view fs)) refl
    where
      by : (b : Bool) → members_eq (members_view es) (members_view fs) ≡ b → false ≡ b
      by false e = refl
      by true e = absurd (differ (sym (count_entries es d) ∙ (ap count ((members_eq_Decides (members_view es) (members_view fs)).0 e)
          ∙ count_entries fs f)))

-- ---- what is left

pub rests_eq_last : (rs : List Rest) (r : Rest) → rests_eq (rs ++ r ∷ []) ≡ rest_eq r && rests_eq rs
rests_eq_last [] r = refl
rests_eq_last (s ∷ rs) r = ap (λ b. rest_eq s && b) (rests_eq_last rs r)
    ∙ (sym (and_assoc (rest_eq s) (rest_eq r) (rests_eq rs)) ∙ (ap (λ b. b && rests_eq rs) (and_comm (rest_eq s) (rest_eq r))
    ∙ and_assoc (rest_eq r) (rest_eq s) (rests_eq rs)))

pub rests_weight_last : (rs : List Rest) (r : Rest) → rests_weight (rs ++ r ∷ []) ≡ rest_weight r + rests_weight rs
rests_weight_last [] r = refl
rests_weight_last (s ∷ rs) r = omega (arith, rests_weight_last rs r)

-- ---- one turn of the comparison: r is what was left, d what was deferred, w whether all of it is the same

module _ (r d w : Bool) (all : r && d ≡ w) where
  pub turn_same : true ≡ r → d ≡ w
  turn_same e = ap (λ b. b && d) e ∙ all

  pub turn_differs : false ≡ r → false ≡ w
  turn_differs e = ap (λ b. b && d) e ∙ all

  -- what is inside is compared before what was deferred
  pub turn_deferred : (i o : Bool) → i && o ≡ r → i && (o && d) ≡ w
  turn_deferred i o inside = sym (and_assoc i o d) ∙ (ap (λ b. b && d) inside ∙ all)

-- one entry of an object beside what the other object has at its key
pub entry_turn : (fs es all : List Entry) (k : String Global) (v : JsonValue) (w : Bool) (o : Option JsonValue)
    → has_entries (members_view fs) all ≡ w → all ≡ (k, v) ∷ es → o ≡ lookup (string_eq k) fs
    → option_eq tree_eq (Some (view v)) (option_map view o) && has_entries (members_view fs) es ≡ w
entry_turn fs es all k v w o is step got =
    let found : find (text k) (members_view fs) ≡ option_map view o = find_members_of k (seen_entries fs)
    ∙ (view_lookup k fs ∙ ap (option_map view) (sym got)) in
    ap (λ p. option_eq tree_eq (Some (view v)) p && has_entries (members_view fs) es) (sym found)
    ∙ (sym (ap (has_entries (members_view fs)) step) ∙ is)
