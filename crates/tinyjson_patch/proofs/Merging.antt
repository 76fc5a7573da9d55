-- What merged members have at each key.
use Rattle.std.proofs.Common.{◌≡◌, ℕ, Bool, true, false, cond, bytes_eq, List, Some, unwrap_or, refl, sym, ap, ◌∙◌, subst}
use Rattle.std.proofs.lemmas.Slice.Eq.{bytes_eq-Decides}
use Rattle.tinyjson.proofs.Callers.{find_below, find_put, find_remove, sorted_put, sorted_remove}
use Rattle.tinyjson.specs.Soundness.{IsTree, IsSorted}
use Rattle.tinyjson.specs.Tree.{Tree, null, object, Members, no_members, member, find, put, remove}
use Rattle.tinyjson_patch.specs.Merge.{members_of, merge_members, merge_patch, merged_at}

-- the members after one of the patch
abbrev pub changed : List ℕ → Tree → Members → Members
changed k null ms = remove k ms
changed k p ms = put k (merge_patch (unwrap_or (find k ms) null) p) ms

pub one_change : (ms : Members) (k : List ℕ) (p : Tree) (ps : Members)
    → merge_members ms (member k p ps) ≡ merge_members (changed k p ms) ps
one_change ms k null ps = refl
one_change ms k _ ps = refl

found_changed : (q k : List ℕ) (p : Tree) (ms : Members)
    → find q (changed k p ms) ≡ cond (bytes_eq q k) (merged_at (find k ms) (Some p)) (find q ms)
found_changed q k null ms = find_remove q k ms
found_changed q k _ ms = find_put q k _ ms

sorted_changed : (k : List ℕ) (p : Tree) (ms : Members) → IsSorted ms → IsSorted (changed k p ms)
sorted_changed k null ms s = sorted_remove k ms s
sorted_changed k _ ms s = sorted_put k _ ms s

pub sorted_merge : (ms ps : Members) → IsSorted ms → IsSorted (merge_members ms ps)
sorted_merge ms no_members s = s
sorted_merge ms (member k p ps) s =
    subst IsSorted (sym (one_change ms k p ps)) (sorted_merge (changed k p ms) ps (sorted_changed k p ms s))

pub found_merged : (q : List ℕ) (ms ps : Members) → IsSorted ps → find q (merge_members ms ps) ≡ merged_at (find q ms) (find q ps)
found_merged q ms no_members s = refl
found_merged q ms (member k p ps) s =
    ap (find q) (one_change ms k p ps)
    ∙ (found_merged q (changed k p ms) ps s.1
    ∙ (ap (λ x. merged_at x (find q ps)) (found_changed q k p ms)
    ∙ by (bytes_eq q k) refl))
  where
    by : (b : Bool) → bytes_eq q k ≡ b
        → merged_at (cond b (merged_at (find k ms) (Some p)) (find q ms)) (find q ps) ≡ merged_at (find q ms) (cond b (Some p) (find q ps))
    by true e =
        let same : q ≡ k = (bytes_eq-Decides q k).0 e in
        ap (merged_at (merged_at (find k ms) (Some p))) (ap (λ x. find x ps) same ∙ find_below k ps s.0 s.1)
        ∙ ap (λ x. merged_at (find x ms) (Some p)) (sym same)
    by false e = refl

pub sorted_in : (t : Tree) → IsTree t → IsSorted (members_of t)
sorted_in (object ms) s = s.1
sorted_in _ s = tt
