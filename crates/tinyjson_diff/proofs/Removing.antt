-- The loop that removes members.
use Rattle.std.proofs.Common.{◌≡◌, ℕ, Bool, true, false, cond, bytes_eq, List, Option, Some, None, is_some, refl, sym, ap, ◌∙◌, subst}
use Rattle.std.proofs.lemmas.Slice.Eq.{bytes_eq-Decides}
use Rattle.tinyjson.proofs.Callers.{find_put, found_first}
use Rattle.tinyjson.specs.Soundness.{IsSorted}
use Rattle.tinyjson.specs.Tree.{Tree, null, Members, no_members, member, find, put}
use Rattle.tinyjson_diff.proofs.Members.{IsLeft, first_gone, first_there, left_begins, left_next}
use Rattle.tinyjson_diff.specs.Changes.{removal, AreRemovals}

-- what the patch has at a key, where the rest has r and the patch is to have p
abbrev pub passed : Option Tree → Option Tree → Option Tree
passed (Some t) p = None
passed None p = p

-- The patch has what removes those members before the rest that the new object has not.
pub record AreRemoved (os ns now rest : Members) : Type 0 where
  pub left : IsLeft os rest
  pub removed : (q : List ℕ) → find q now ≡ passed (find q rest) (removal (find q os) (find q ns))

pub removed_begins : (os ns now rest : Members) → now ≡ no_members → rest ≡ os → IsSorted os → AreRemoved os ns now rest
removed_begins os ns now rest none same s = record {
  left = subst (IsLeft os) (sym same) (left_begins os s);
  removed = λ q. ap (find q) none ∙ (by (find q os) (find q ns)
      ∙ ap (λ ms. passed (find q ms) (removal (find q os) (find q ns))) (sym same));
}
  where
    by : (o n : Option Tree) → None ≡ passed o (removal o n)
    by None n = refl
    by (Some t) n = refl

module _ (os ns now rest : Members) (k : List ℕ) (v : Tree) (r : AreRemoved os ns now (member k v rest)) where
  turn : (next : Members) (c : Option Tree) → removal (Some v) (find k ns) ≡ c
      → ((q : List ℕ) → find q next ≡ cond (bytes_eq q k) c (find q now)) → AreRemoved os ns next rest
  turn next c is h = record {
    left = left_next os rest k v r.left;
    removed = λ q. h q ∙ by q (bytes_eq q k) refl;
  }
    where
      by : (q : List ℕ) (b : Bool) → bytes_eq q k ≡ b
          → cond b c (find q now) ≡ passed (find q rest) (removal (find q os) (find q ns))
      by q true at =
          sym is
          ∙ (ap (λ o. removal o (find k ns)) (sym (first_there os rest k v r.left))
          ∙ (ap (λ x. removal (find x os) (find x ns)) (sym ((bytes_eq-Decides q k).0 at))
          ∙ ap (λ o. passed o (removal (find q os) (find q ns))) (sym (first_gone os rest k v r.left q at))))
      by q false at =
          r.removed q ∙ ap (λ b. passed (cond b (Some v) (find q rest)) (removal (find q os) (find q ns))) at

  pub removed_none : is_some (find k ns) ≡ true → AreRemoved os ns now rest
  removed_none there = turn now None (by (find k ns) there) (λ q. at q (bytes_eq q k) refl)
    where
      by : (n : Option Tree) → is_some n ≡ true → removal (Some v) n ≡ None
      by None h = cc
      by (Some u) h = refl

      nothing_yet : find k now ≡ None
      nothing_yet = r.removed k ∙ ap (λ o. passed o (removal (find k os) (find k ns))) (found_first k v rest)

      at : (q : List ℕ) (b : Bool) → bytes_eq q k ≡ b → find q now ≡ cond b None (find q now)
      at q true same = ap (λ x. find x now) ((bytes_eq-Decides q k).0 same) ∙ nothing_yet
      at q false same = refl

  pub removed_some : (next : Members) → is_some (find k ns) ≡ false → next ≡ put k null now → AreRemoved os ns next rest
  removed_some next missing h = turn next (Some null) (by (find k ns) missing) (λ q. ap (find q) h ∙ find_put q k null now)
    where
      by : (n : Option Tree) → is_some n ≡ false → removal (Some v) n ≡ Some null
      by None g = refl
      by (Some u) g = cc

pub removed_ends : (os ns now rest : Members) → AreRemoved os ns now rest → rest ≡ no_members → AreRemovals os ns now
removed_ends os ns now rest r none q =
    r.removed q ∙ ap (λ ms. passed (find q ms) (removal (find q os) (find q ns))) none
