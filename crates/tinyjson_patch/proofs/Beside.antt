-- A patch merged into members side by side, both in the order of their keys.
use Rattle.std.proofs.Common.{◌≡◌, ℕ, Bool, true, false, cond, bytes_eq, List, Option, Some, None, unwrap_or, refl, sym, ap, ◌∙◌, subst}
use Rattle.std.proofs.Common.{Ordering, Less, Equal, Greater}
use Rattle.std.proofs.lemmas.Slice.Eq.{bytes_eq-Decides}
use Rattle.std.specs.Ordering.{ordering_reverse}
use Rattle.std.specs.Prelude.{IsTrue}
use Rattle.std.specs.Str.{all_scalars}
use Rattle.tinyjson_grammar.proofs.Callers.{are_put, find_below, found_first, key_same, key_total}
use Rattle.tinyjson_grammar.proofs.Callers.{members_from_find, same_key, some_none, sorted_put}
use Rattle.tinyjson_grammar.specs.Soundness.{IsTree, IsTreeAt, AreMembersAt, IsBelow, IsSorted}
use Rattle.tinyjson_grammar.specs.Tree.{Tree, null, boolean, number, string, array, object, key_cmp}
use Rattle.tinyjson_grammar.specs.Tree.{Members, no_members, member, find, put, put_at, remove}
use Rattle.tinyjson_number.specs.Numeral.{power_width}
use Rattle.tinyjson_patch.specs.Merge.{members_of, merge_patch, merge_members}
use Rattle.tinyjson_patch.specs.Merging.{at_first}
use Rattle.tinyjson_patch.proofs.Merging.{changed, one_change, sorted_merge, sorted_in}

-- ---- the order of keys

pub itself : (k : List ℕ) → key_cmp k k ≡ Equal
itself k = by (key_cmp k k) refl
  where
    by : (o : Ordering) → key_cmp k k ≡ o → o ≡ Equal
    by Less e = let f : Less ≡ Greater = sym e ∙ (key_total.antisymm k k ∙ ap ordering_reverse e) in cc
    by Equal e = refl
    by Greater e = let f : Greater ≡ Less = sym e ∙ (key_total.antisymm k k ∙ ap ordering_reverse e) in cc

greater : (k l : List ℕ) → key_cmp k l ≡ Less → key_cmp l k ≡ Greater
greater k l h = key_total.antisymm l k ∙ ap ordering_reverse h

-- a key is another than one below it
apart : (k l : List ℕ) → key_cmp k l ≡ Less → bytes_eq l k ≡ false
apart k l e = by (bytes_eq l k) refl
  where
    by : (b : Bool) → bytes_eq l k ≡ b → b ≡ false
    by false h = refl
    by true h =
        let same : Less ≡ Equal = sym e ∙ (ap (key_cmp k) ((bytes_eq-Decides l k).0 h) ∙ itself k) in
        cc

below_next : (k l : List ℕ) (ms : Members) → key_cmp k l ≡ Less → IsBelow l ms → IsBelow k ms
below_next k l no_members e b = tt
below_next k l (member m u ms) e b = key_total.trans k l m e b

remove_below : (k : List ℕ) (ms : Members) → IsBelow k ms → IsSorted ms → remove k ms ≡ ms
remove_below k no_members b s = refl
remove_below k (member l u ms) b s =
    ap (λ x. cond x (remove k ms) (member l u (remove k ms))) (ap (bytes_eq k) refl ∙ other)
    ∙ ap (member l u) (remove_below k ms (below_next k l ms b s.0) s.1)
  where
    other : bytes_eq k l ≡ false
    other = by (bytes_eq k l) refl
      where
        by : (x : Bool) → bytes_eq k l ≡ x → x ≡ false
        by false h = refl
        by true h =
            let same : Less ≡ Equal = sym b ∙ (ap (key_cmp k) (sym ((bytes_eq-Decides k l).0 h)) ∙ itself k) in
            cc

put_below : (k : List ℕ) (t : Tree) (ms : Members) → IsBelow k ms → put k t ms ≡ member k t ms
put_below k t no_members b = refl
put_below k t (member l u ms) b = ap (λ o. put_at o k t l u ms (put k t ms)) b

put_again : (k : List ℕ) (t u : Tree) (ms : Members) → put k t (member k u ms) ≡ member k t ms
put_again k t u ms = ap (λ o. put_at o k t k u ms (put k t ms)) (itself k)

-- ---- a member of the patch and members of the target

-- a member of the target below the key of the patch stays
past_put : (k l : List ℕ) (t : Tree) (f : Tree → Tree) (ms : Members) → key_cmp k l ≡ Less
    → put l (f (unwrap_or (find l (member k t ms)) null)) (member k t ms) ≡ member k t (put l (f (unwrap_or (find l ms) null)) ms)
past_put k l t f ms e =
    ap (λ b. put l (f (unwrap_or (cond b (Some t) (find l ms)) null)) (member k t ms)) (apart k l e)
    ∙ ap (λ o. put_at o l (f (unwrap_or (find l ms) null)) k t ms (put l (f (unwrap_or (find l ms) null)) ms)) (greater k l e)

past_changed : (k l : List ℕ) (t p : Tree) (ms : Members) → key_cmp k l ≡ Less → changed l p (member k t ms) ≡ member k t (changed l p ms)
past_changed k l t null ms e = ap (λ b. cond b (remove l ms) (member k t (remove l ms))) (apart k l e)
past_changed k l t (boolean b) ms e = past_put k l t (λ x. merge_patch x (boolean b)) ms e
past_changed k l t (number d) ms e = past_put k l t (λ x. merge_patch x (number d)) ms e
past_changed k l t (string cs) ms e = past_put k l t (λ x. merge_patch x (string cs)) ms e
past_changed k l t (array ts) ms e = past_put k l t (λ x. merge_patch x (array ts)) ms e
past_changed k l t (object ps) ms e = past_put k l t (λ x. merge_patch x (object ps)) ms e

-- and so does one that is below the whole patch
pub merge_past : (k : List ℕ) (t : Tree) (ms ps : Members) → IsBelow k ps → IsSorted ps
    → merge_members (member k t ms) ps ≡ member k t (merge_members ms ps)
merge_past k t ms no_members b s = refl
merge_past k t ms (member l p ps) b s =
    one_change (member k t ms) l p ps
    ∙ (ap (λ x. merge_members x ps) (past_changed k l t p ms b)
    ∙ (merge_past k t (changed l p ms) ps (below_next k l ps b s.0) s.1
    ∙ ap (member k t) (sym (one_change ms l p ps))))

-- what a member of the patch leaves before the members above its key
abbrev pub left_first : List ℕ → Tree → Tree → Members → Members
left_first k null t ms = ms
left_first k p t ms = member k (merge_patch t p) ms

first_put : (k : List ℕ) (f : Tree → Tree) (old : Option Tree) (above : Members) → IsBelow k above → IsSorted above
    → put k (f (unwrap_or (find k (at_first k old above)) null)) (at_first k old above) ≡ member k (f (unwrap_or old null)) above
first_put k f None above b s =
    ap (λ o. put k (f (unwrap_or o null)) above) (find_below k above b s) ∙ put_below k (f null) above b
first_put k f (Some t) above b s =
    ap (λ o. put k (f (unwrap_or o null)) (member k t above)) (found_first k t above) ∙ put_again k (f t) t above

changed_first : (k : List ℕ) (p : Tree) (old : Option Tree) (above : Members) → IsBelow k above → IsSorted above
    → changed k p (at_first k old above) ≡ left_first k p (unwrap_or old null) above
changed_first k null None above b s = remove_below k above b s
changed_first k null (Some t) above b s =
    ap (λ x. cond x (remove k above) (member k t (remove k above))) (same_key k) ∙ remove_below k above b s
changed_first k (boolean x) old above b s = first_put k (λ y. merge_patch y (boolean x)) old above b s
changed_first k (number d) old above b s = first_put k (λ y. merge_patch y (number d)) old above b s
changed_first k (string cs) old above b s = first_put k (λ y. merge_patch y (string cs)) old above b s
changed_first k (array ts) old above b s = first_put k (λ y. merge_patch y (array ts)) old above b s
changed_first k (object qs) old above b s = first_put k (λ y. merge_patch y (object qs)) old above b s

past_first : (k : List ℕ) (p t : Tree) (ms ps : Members) → IsBelow k ps → IsSorted ps
    → merge_members (left_first k p t ms) ps ≡ left_first k p t (merge_members ms ps)
past_first k null t ms ps b s = refl
past_first k (boolean x) t ms ps b s = merge_past k (boolean x) ms ps b s
past_first k (number d) t ms ps b s = merge_past k (number d) ms ps b s
past_first k (string cs) t ms ps b s = merge_past k (string cs) ms ps b s
past_first k (array ts) t ms ps b s = merge_past k (array ts) ms ps b s
past_first k (object qs) t ms ps b s = merge_past k (merge_patch t (object qs)) ms ps b s

-- the first member of the patch, where the members of the target below its key are gone
pub merge_first : (k : List ℕ) (p : Tree) (old : Option Tree) (above ps : Members) → IsSorted (member k p ps)
    → IsBelow k above → IsSorted above
    → merge_members (at_first k old above) (member k p ps) ≡ left_first k p (unwrap_or old null) (merge_members above ps)
merge_first k p old above ps s b r =
    one_change (at_first k old above) k p ps
    ∙ (ap (λ x. merge_members x ps) (changed_first k p old above b r) ∙ past_first k p (unwrap_or old null) above ps s.0 s.1)

-- ---- the merged value is one that a value may be

are_removed : (k : List ℕ) (ms : Members) → AreMembersAt power_width ms → AreMembersAt power_width (remove k ms)
are_removed k no_members a = tt
are_removed k (member l u ms) a = by (bytes_eq k l) (are_removed k ms a.2)
  where
    by : (b : Bool) → AreMembersAt power_width (remove k ms) → AreMembersAt power_width (cond b (remove k ms) (member l u (remove k ms)))
    by true h = h
    by false h = (a.0, a.1, h)

found_sound : (k : List ℕ) (ms : Members) → AreMembersAt power_width ms → IsTree (unwrap_or (find k ms) null)
found_sound k no_members a = tt
found_sound k (member l u ms) a = by (bytes_eq k l) (found_sound k ms a.2)
  where
    by : (b : Bool) → IsTree (unwrap_or (find k ms) null) → IsTree (unwrap_or (cond b (Some u) (find k ms)) null)
    by true h = a.1
    by false h = h

members_sound : (t : Tree) → IsTree t → AreMembersAt power_width (members_of t)
members_sound (object ms) a = a.0
members_sound null a = tt
members_sound (boolean b) a = tt
members_sound (number d) a = tt
members_sound (string cs) a = tt
members_sound (array ts) a = tt

are_changed : (k : List ℕ) (p : Tree) (ms : Members) → AreMembersAt power_width ms → IsTrue (all_scalars k)
    → IsTree (merge_patch (unwrap_or (find k ms) null) p) → AreMembersAt power_width (changed k p ms)
are_changed k null ms a c s = are_removed k ms a
are_changed k (boolean x) ms a c s = are_put power_width k (boolean x) ms c s a
are_changed k (number d) ms a c s = are_put power_width k (number d) ms c s a
are_changed k (string cs) ms a c s = are_put power_width k (string cs) ms c s a
are_changed k (array ts) ms a c s = are_put power_width k (array ts) ms c s a
are_changed k (object qs) ms a c s = are_put power_width k (merge_patch (unwrap_or (find k ms) null) (object qs)) ms c s a

mutual
  pub merge_sound : (t p : Tree) → IsTree t → IsTree p → IsTree (merge_patch t p)
  merge_sound t (object ps) a b =
      (are_merged (members_of t) ps (members_sound t a) b.0, sorted_merge (members_of t) ps (sorted_in t a))
  merge_sound t null a b = b
  merge_sound t (boolean x) a b = b
  merge_sound t (number d) a b = b
  merge_sound t (string cs) a b = b
  merge_sound t (array ts) a b = b

  are_merged : (ms ps : Members) → AreMembersAt power_width ms → AreMembersAt power_width ps
      → AreMembersAt power_width (merge_members ms ps)
  are_merged ms no_members a b = a
  are_merged ms (member k p ps) a b =
      let here = merge_sound (unwrap_or (find k ms) null) p (found_sound k ms a) b.1 in
      subst (AreMembersAt power_width) (sym (one_change ms k p ps)) (are_merged (changed k p ms) ps (are_changed k p ms a b.0 here) b.2)
