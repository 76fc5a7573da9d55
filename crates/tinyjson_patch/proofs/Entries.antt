-- The loop over the entries of a patch, whose order is not known, and values beside their trees.
use Rattle.std.proofs.Common.{◌≡◌, ◌++◌, [], ◌∷◌, ℕ, Bool, true, false, cond, bytes_eq, List, Option, Some, None, unwrap_or, is_some}
use Rattle.std.proofs.Common.{refl, sym, ap, ◌∙◌}
use Rattle.std.proofs.lemmas.Slice.Eq.{bytes_eq-Decides}
use Rattle.std.specs.List.{IsDistinct}
use Rattle.std.specs.Map.{keys_of}
use Rattle.std.specs.String.{string_eq}
use Rattle.tinyjson.proofs.Callers.{Entry, IsRest, rest_begins, rest_next, rest_distinct, rest_ends, find_done, members_view_last}
use Rattle.tinyjson.proofs.Callers.{find_put, find_remove, members_from_find, members_view_IsSorted, no_object, is_null_view}
use Rattle.tinyjson.specs.Access.{JsonMap, is_null, null_part}
use Rattle.tinyjson.specs.Soundness.{IsSorted}
use Rattle.tinyjson.specs.Tree.{Tree, null, object, Members, no_members, find, put, remove}
use Rattle.tinyjson.specs.View.{view, text, members_view}
use Rattle.tinyjson.specs.declared.value.JsonValue.{JsonValue}
use Rattle.tinyjson.specs.declared.value.JsonValue.TheVariants as made
use Rattle.tinyjson_patch.specs.Merge.{left_by, members_of, merge_members, merge_patch, merged_at}
use Rattle.tinyjson_patch.proofs.Merging.{sorted_merge, found_merged}

-- The members are those at the start with the entries before the rest merged into them.
pub record AreMerged (start now : Members) (es rest : List Entry) : Type 0 where
  pub left : IsRest es rest
  pub merged : (q : List ℕ) → find q now ≡ merged_at (find q start) (find q (members_view left.done))

-- at the key of the entry is what it leaves, and at each other one what was there
abbrev pub IsChanged : Members → Members → List ℕ → Tree → Type 0
IsChanged now next k p = (q : List ℕ) → find q next ≡ cond (bytes_eq q k) (merged_at (find k now) (Some p)) (find q now)

pub merge_begins : (start now : Members) (es rest : List Entry) → now ≡ start → rest ≡ es → IsDistinct string_eq (keys_of es)
    → AreMerged start now es rest
merge_begins start now es rest same h d = record { left = rest_begins es rest h d; merged = λ q. ap (find q) same }

pub merge_next : (start now next : Members) (es rest more : List Entry) (e : Entry) → AreMerged start now es rest → rest ≡ e ∷ more
    → IsChanged now next (text e.0) (view e.1) → AreMerged start next es more
merge_next start now next es rest more e r split h =
    record {
      left = rest_next es rest more e r.left split;
      merged = λ q. h q
          ∙ (by q (bytes_eq q k) refl ∙ sym (ap (merged_at (find q start)) (last q)));
    }
  where
    k : List ℕ
    k = text e.0

    p : Tree
    p = view e.1

    done : List Entry
    done = r.left.done

    distinct : IsDistinct string_eq (keys_of (done ++ e ∷ more))
    distinct = rest_distinct es rest more e r.left split

    last : (q : List ℕ) → find q (members_view (done ++ e ∷ [])) ≡ cond (bytes_eq q k) (Some p) (find q (members_view done))
    last q = ap (find q) (members_view_last done e more distinct) ∙ find_put q k p (members_view done)

    by : (q : List ℕ) (b : Bool) → bytes_eq q k ≡ b
        → cond b (merged_at (find k now) (Some p)) (find q now) ≡ merged_at (find q start) (cond b (Some p) (find q (members_view done)))
    by q true at =
        ap (λ x. merged_at x (Some p)) (r.merged k ∙ (ap (merged_at (find k start)) (find_done done more e distinct)
        ∙ ap (λ x. find x start) (sym ((bytes_eq-Decides q k).0 at))))
    by q false at = r.merged q

pub merge_ends : (start : Members) (es fs rest : List Entry) → IsSorted start → AreMerged start (members_view fs) es rest → rest ≡ []
    → members_view fs ≡ merge_members start (members_view es)
merge_ends start es fs rest s r none =
    members_from_find _ _ (members_view_IsSorted fs) (sorted_merge start (members_view es) s) (λ q.
    r.merged q ∙ (ap (λ x. merged_at (find q start) (find q (members_view x))) (sym (rest_ends es rest r.left none))
    ∙ sym (found_merged q start (members_view es) (members_view_IsSorted es))))

-- ---- the calls of one turn

null_told : (t : Tree) → true ≡ is_null t → t ≡ null
null_told null h = refl
null_told _ h = cc

some_told : (p r : Tree) → false ≡ is_null p → Some r ≡ left_by p r
some_told null r h = cc
some_told _ r h = refl

-- a member of the patch that is null
pub null_changed : (now next : Members) (k : List ℕ) (v : JsonValue) → true ≡ is_some (null_part v) → next ≡ remove k now
    → IsChanged now next k (view v)
null_changed now next k v h is q =
    let none : view v ≡ null = null_told (view v) (h ∙ is_null_view v) in
    ap (find q) is ∙ (find_remove q k now
    ∙ ap (λ x. cond (bytes_eq q k) (merged_at (find k now) (Some x)) (find q now)) (sym none))

same_cond : (b : Bool) (r : Tree) (o : Option Tree) → cond b (Some r) (cond b None o) ≡ cond b (Some r) o
same_cond true r o = refl
same_cond false r o = refl

-- another one
pub value_changed : (now mid next : Members) (k : List ℕ) (v : JsonValue) (old r : Tree) → false ≡ is_some (null_part v)
    → mid ≡ remove k now → old ≡ unwrap_or (find k now) null → r ≡ merge_patch old (view v) → next ≡ put k r mid
    → IsChanged now next k (view v)
value_changed now mid next k v old r some gone was is n q =
    ap (find q) n
    ∙ (find_put q k r mid
    ∙ (ap (λ x. cond (bytes_eq q k) (Some r) (find q x)) gone
    ∙ (ap (cond (bytes_eq q k) (Some r)) (find_remove q k now)
    ∙ (same_cond (bytes_eq q k) r (find q now)
    ∙ ap (λ x. cond (bytes_eq q k) x (find q now)) (some_told (view v) r (some ∙ is_null_view v)
    ∙ ap (left_by (view v)) (is ∙ ap (λ x. merge_patch x (view v)) was))))))

-- ---- values that are no object

-- such a patch replaces all
pub patch_replaces : (v : JsonValue) (t : Tree) → ((m : JsonMap) → v ≡ made.Object m → ⊥) → merge_patch t (view v) ≡ view v
patch_replaces v t other = by (view v) (no_object v other)
  where
    by : (p : Tree) → ((ms : Members) → p ≡ object ms → ⊥) → merge_patch t p ≡ p
    by (object ms) n = absurd (n ms refl)
    by _ n = refl

-- such a target has no members
pub no_members_of : (v : JsonValue) → ((m : JsonMap) → v ≡ made.Object m → ⊥) → no_members ≡ members_of (view v)
no_members_of v other = by (view v) (no_object v other)
  where
    by : (t : Tree) → ((ms : Members) → t ≡ object ms → ⊥) → no_members ≡ members_of t
    by (object ms) n = absurd (n ms refl)
    by _ n = refl
