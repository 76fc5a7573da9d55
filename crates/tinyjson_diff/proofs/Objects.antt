-- The patch of two objects, from its members.
use Rattle.std.proofs.Common.{◌≡◌, ℕ, Bool, true, false, cond, bytes_eq, List, Option, Some, None, unwrap_or, refl, sym, ap, ◌∙◌, subst}
use Rattle.std.proofs.lemmas.Slice.Eq.{bytes_eq-Decides}
use Rattle.tinyjson.proofs.Callers.{find_below, found_first, members_from_find, some_none}
use Rattle.tinyjson.specs.Soundness.{IsSorted}
use Rattle.tinyjson.specs.Tree.{Tree, null, object, Members, no_members, member, find}
use Rattle.tinyjson_patch.proofs.Callers.{found_merged, sorted_merge}
use Rattle.tinyjson_patch.specs.Merge.{members_of, merge_members, merged_at}
use Rattle.tinyjson_diff.specs.Changes.{IsChange, object_members}
use Rattle.tinyjson_diff.specs.Merging.{AreChanges}

-- at each key the patch leads from one object to the other
abbrev pub LeadAll : Members → Members → Members → Type 0
LeadAll os ns ps = (q : List ℕ) → IsChange (find q os) (find q ns) (find q ps)

merged_members : (os ns ps : Members) → IsSorted os → IsSorted ns → IsSorted ps → LeadAll os ns ps → merge_members os ps ≡ ns
merged_members os ns ps so sn sp h =
    members_from_find (merge_members os ps) ns (sorted_merge os ps so) sn
    (λ q. found_merged q os ps sp ∙ by (find q os) (find q ns) (find q ps) (h q))
  where
    by : (o n p : Option Tree) → IsChange o n p → merged_at o p ≡ n
    by o n None c = c
    by o n (Some p) c = c.1

later : (k : List ℕ) (p : Tree) (ps : Members) → IsSorted (member k p ps) → (q : List ℕ) (r : Tree) → find q ps ≡ Some r
    → find q (member k p ps) ≡ Some r
later k p ps s q r e = by (bytes_eq q k) refl
  where
    by : (b : Bool) → bytes_eq q k ≡ b → cond b (Some p) (find q ps) ≡ Some r
    by false at = e
    by true at =
        absurd (some_none r (sym e ∙ (ap (λ x. find x ps) ((bytes_eq-Decides q k).0 at) ∙ find_below k ps s.0 s.1)))

changes_from : (os ns ps : Members) → IsSorted ps
    → ((q : List ℕ) (r : Tree) → find q ps ≡ Some r → IsChange (find q os) (find q ns) (Some r)) → AreChanges os ns ps
changes_from os ns no_members s h = tt
changes_from os ns (member k p ps) s h =
    let c = h k p (found_first k p ps) in
    (c.0, c.2, changes_from os ns ps s.1 (λ q r e. h q r (later k p ps s q r e)))

are_changes : (os ns ps : Members) → IsSorted ps → LeadAll os ns ps → AreChanges os ns ps
are_changes os ns ps s h = changes_from os ns ps s (λ q r e. subst (IsChange (find q os) (find q ns)) e (h q))

-- ---- the old value may be no object

pub same_members : (o : Option Tree) → members_of (unwrap_or o null) ≡ unwrap_or (object_members o) no_members
same_members None = refl
same_members (Some null) = refl
same_members (Some (object ms)) = refl
same_members (Some _) = refl

object_apart : (o : Option Tree) (ns ps : Members) → AreChanges (unwrap_or (object_members o) no_members) ns ps
    → (ps ≡ no_members → object_members o ≡ None) → ¬ (o ≡ Some (object ns))
object_apart None ns ps h some e = cc
object_apart (Some (object ms)) ns no_members h some e = some_none ms (some refl)
object_apart (Some (object ms)) ns (member k p ps) h some e = h.0 (ap (find k) (same e))
  where
    same : Some (object ms) ≡ Some (object ns) → ms ≡ ns
    same e = cc
object_apart (Some _) ns ps h some e = cc

module _ (o : Option Tree) (os ns ps : Members) (is : os ≡ unwrap_or (object_members o) no_members) (so : IsSorted os)
    (sn : IsSorted ns) (sp : IsSorted ps) (h : LeadAll os ns ps) where
  pub object_changed : (ps ≡ no_members → object_members o ≡ None) → IsChange o (Some (object ns)) (Some (object ps))
  object_changed some =
      let old : members_of (unwrap_or o null) ≡ os = same_members o ∙ sym is in
      let changes : AreChanges os ns ps = are_changes os ns ps sp h in (
        object_apart o ns ps (subst (λ x. AreChanges x ns ps) is changes) some,
        ap (λ x. Some (object (merge_members x ps))) old ∙ ap (λ x. Some (object x)) (merged_members os ns ps so sn sp h),
        subst (λ x. AreChanges x ns ps) (sym old) changes,
      )

  pub object_same : (ms : Members) → object_members o ≡ Some ms → ps ≡ no_members → IsChange o (Some (object ns)) None
  object_same ms some none = by o some (sym (ap (λ x. merge_members os x) none) ∙ merged_members os ns ps so sn sp h) is
    where
      by : (x : Option Tree) → object_members x ≡ Some ms → os ≡ ns → os ≡ unwrap_or (object_members x) no_members
          → x ≡ Some (object ns)
      by (Some (object ls)) at same old = ap (λ y. Some (object y)) (sym old ∙ same)
      by None at same old = cc
      by (Some _) at same old = cc
