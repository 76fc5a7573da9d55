-- The loop over the members of the new object.
use Rattle.std.proofs.Common.{◌≡◌, ℕ, Bool, true, false, cond, bytes_eq, List, Option, Some, None, refl, sym, ap, ◌∙◌, subst}
use Rattle.std.proofs.lemmas.Slice.Eq.{bytes_eq-Decides}
use Rattle.tinyjson.proofs.Callers.{find_put, found_first}
use Rattle.tinyjson.specs.Soundness.{IsSorted}
use Rattle.tinyjson.specs.Tree.{Tree, Members, no_members, member, find, put}
use Rattle.tinyjson_diff.proofs.Members.{IsLeft, first_gone, first_there, left_begins, left_next}
use Rattle.tinyjson_diff.specs.Changes.{IsChange, removal, AreRemovals, with_change}

-- what the patch has at a key, where the old object has o, the new one n, and the rest of it r
abbrev pub IsChangedAt : Option Tree → Option Tree → Option Tree → Option Tree → Type 0
IsChangedAt o None r p = p ≡ removal o None
IsChangedAt o (Some u) None p = IsChange o (Some u) p
IsChangedAt o (Some u) (Some t) p = p ≡ None

-- The patch has what removes members, and the changes of the members before the rest.
pub record AreChanged (os ns now rest : Members) : Type 0 where
  pub left : IsLeft ns rest
  pub changed : (q : List ℕ) → IsChangedAt (find q os) (find q ns) (find q rest) (find q now)

pub changed_begins : (os ns now rest : Members) → AreRemovals os ns now → rest ≡ ns → IsSorted ns → AreChanged os ns now rest
changed_begins os ns now rest h same s = record {
  left = subst (IsLeft ns) (sym same) (left_begins ns s);
  changed = λ q. subst (λ ms. IsChangedAt (find q os) (find q ns) (find q ms) (find q now)) (sym same)
      (by (find q os) (find q ns) (find q now) (h q));
}
  where
    gone : (o : Option Tree) (u : Tree) → removal o (Some u) ≡ None
    gone None u = refl
    gone (Some t) u = refl

    by : (o n p : Option Tree) → p ≡ removal o n → IsChangedAt o n n p
    by o None p e = e
    by o (Some u) p e = e ∙ gone o u

module _ (os ns now rest : Members) (k : List ℕ) (v : Tree) (r : AreChanged os ns now (member k v rest)) where
  pub found_now : find k ns ≡ Some v
  found_now = first_there ns rest k v r.left

  -- before its turn the patch has nothing at the key
  nothing_yet : find k now ≡ None
  nothing_yet = by (find k ns) (find k (member k v rest)) (r.changed k) found_now (found_first k v rest)
    where
      by : (n o : Option Tree) → IsChangedAt (find k os) n o (find k now) → n ≡ Some v → o ≡ Some v → find k now ≡ None
      by (Some u) (Some t) h at there = h
      by None o h at there = cc
      by (Some u) None h at there = cc

  turn : (next : Members) (c : Option Tree) → IsChange (find k os) (Some v) c
      → ((q : List ℕ) → find q next ≡ cond (bytes_eq q k) c (find q now)) → AreChanged os ns next rest
  turn next c is h = record {
    left = left_next ns rest k v r.left;
    changed = λ q. subst (IsChangedAt (find q os) (find q ns) (find q rest)) (sym (h q)) (by q (bytes_eq q k) refl);
  }
    where
      by : (q : List ℕ) (b : Bool) → bytes_eq q k ≡ b → IsChangedAt (find q os) (find q ns) (find q rest) (cond b c (find q now))
      by q true at =
          let same : q ≡ k = (bytes_eq-Decides q k).0 at in
          subst (λ o. IsChangedAt (find q os) (find q ns) o c) (sym (first_gone ns rest k v r.left q at))
          (subst (λ n. IsChangedAt (find q os) n None c) (sym (ap (λ x. find x ns) same ∙ found_now))
          (subst (λ x. IsChange (find x os) (Some v) c) (sym same) is))
      by q false at =
          subst (λ b. IsChangedAt (find q os) (find q ns) (cond b (Some v) (find q rest)) (find q now)) at (r.changed q)

  changed_none : IsChange (find k os) (Some v) None → AreChanged os ns now rest
  changed_none is = turn now None is (λ q. by q (bytes_eq q k) refl)
    where
      by : (q : List ℕ) (b : Bool) → bytes_eq q k ≡ b → find q now ≡ cond b None (find q now)
      by q true at = ap (λ x. find x now) ((bytes_eq-Decides q k).0 at) ∙ nothing_yet
      by q false at = refl

  changed_some : (next : Members) (p : Tree) → IsChange (find k os) (Some v) (Some p) → next ≡ put k p now
      → AreChanged os ns next rest
  changed_some next p is h = turn next (Some p) is (λ q. ap (find q) h ∙ find_put q k p now)

  pub changed_next : (next : Members) (c : Option Tree) → IsChange (find k os) (Some v) c → next ≡ with_change k c now
      → AreChanged os ns next rest
  changed_next next None is h = subst (λ m. AreChanged os ns m rest) (sym h) (changed_none is)
  changed_next next (Some p) is h = changed_some next p is h

pub changed_ends : (os ns now rest : Members) → AreChanged os ns now rest → rest ≡ no_members
    → (q : List ℕ) → IsChange (find q os) (find q ns) (find q now)
changed_ends os ns now rest r none q = by (find q os) (find q ns) (find q now)
    (subst (λ ms. IsChangedAt (find q os) (find q ns) (find q ms) (find q now)) none (r.changed q))
  where
    by : (o n p : Option Tree) → IsChangedAt o n None p → IsChange o n p
    by o (Some u) p h = h
    by None None p h = subst (IsChange None None) (sym h) refl
    by (Some t) None p h = subst (IsChange (Some t) None) (sym h) ((λ e. cc), refl, tt)
