-- Members to which no merge patch leads.
use Rattle.std.proofs.Common.{◌≡◌, ℕ, Bool, true, false, cond, bytes_eq, List, [], Option, Some, None, Err, unwrap_or, sym, ap, ◌∙◌, subst}
use Rattle.std.specs.Prelude.{option_and_then}
use Rattle.tinyjson.specs.Numeral.{power_width}
use Rattle.tinyjson.specs.Soundness.{AreMembersAt}
use Rattle.tinyjson.specs.Tree.{Tree, null, object, Members, no_members, member, find}
use Rattle.tinyjson_patch.proofs.Callers.{found_merged}
use Rattle.tinyjson_patch.specs.Merge.{left_by, members_of, merge_members, merge_patch, merged_at}
use Rattle.tinyjson_pointer.specs.Tokens.{tokens_of}
use Rattle.tinyjson_pointer.specs.Walk.{part_at}
use Rattle.tinyjson_pointer.specs.declared.pointer.Pointer.{Pointer}
use Rattle.tinyjson_diff.specs.Changes.{Changes, IsBelow, IsChange, IsTreeOrNone, IsUnreached, object_members}
use Rattle.tinyjson_diff.specs.Merging.{GivesMergePatch, Leads}
use Rattle.tinyjson_diff.specs.declared.merge.NoMergePatch.{NoMergePatch}
use Rattle.tinyjson_diff.specs.declared.merge.NoMergePatch.TheVariants.{Null, OutOfMemory}
use Rattle.tinyjson_diff.proofs.Objects.{same_members}

found_tree : (k : List ℕ) (ps : Members) → AreMembersAt power_width ps → IsTreeOrNone (find k ps)
found_tree k no_members s = tt
found_tree k (member l t ps) s = by (bytes_eq k l) (found_tree k ps s.2)
  where
    by : (b : Bool) → IsTreeOrNone (find k ps) → IsTreeOrNone (cond b (Some t) (find k ps))
    by true h = s.1
    by false h = h

one_object : (ms ns : Members) → Some (object ms) ≡ Some (object ns) → ms ≡ ns
one_object ms ns e = cc

pub unreached_object : (o : Option Tree) (os ns : Members) (k : List ℕ) (u : Tree) → os ≡ unwrap_or (object_members o) no_members
    → find k ns ≡ Some u → IsUnreached (find k os) u → IsUnreached o (object ns)
unreached_object o os ns k u is at h None s e =
    h None tt (ap (find k) (is ∙ ap (λ x. unwrap_or (object_members x) no_members) e) ∙ at)
unreached_object o os ns k u is at h (Some null) s e = cc
unreached_object o os ns k u is at h (Some (object ps)) s e =
    let merged : merge_members os ps ≡ ns =
    ap (λ x. merge_members x ps) (is ∙ sym (same_members o)) ∙ one_object (merge_members (members_of (unwrap_or o null)) ps) ns e in
    h (find k ps) (found_tree k ps s.0) (sym (found_merged k os ps s.1) ∙ (ap (find k) merged ∙ at))
unreached_object o os ns k u is at h (Some _) s e = cc

pub unreached_null : (o : Option Tree) → ¬ (o ≡ Some null) → IsUnreached o null
unreached_null o differ None s e = differ e
unreached_null o differ (Some null) s e = cc
unreached_null o differ (Some (object ps)) s e = cc
unreached_null o differ (Some _) s e = cc

pub null_refused : (o : Option Tree) (u : Tree) (place : Pointer) → u ≡ null → ¬ (o ≡ Some u) → tokens_of place ≡ []
    → Changes o u (Err (Null place))
null_refused o u place is differ root = (
  ap (part_at u) root ∙ ap Some is,
  subst (IsUnreached o) (sym is) (unreached_null o (λ e. differ (e ∙ ap Some (sym is)))),
)

-- the error of a member is that of the object
pub error_below : (o : Option Tree) (os ns : Members) (k : List ℕ) (u : Tree) (e f : NoMergePatch)
    → os ≡ unwrap_or (object_members o) no_members → find k ns ≡ Some u → Changes (find k os) u (Err e) → IsBelow k e f
    → Changes o (object ns) (Err f)
error_below o os ns k u (Null place) (Null whole) is at h b = (
  ap (part_at (object ns)) b ∙ (ap (option_and_then (λ x. part_at x (tokens_of place))) at ∙ h.0),
  unreached_object o os ns k u is at h.1,
)
error_below o os ns k u (Null place) OutOfMemory is at h b = tt
error_below o os ns k u OutOfMemory (Null whole) is at h b = absurd b
error_below o os ns k u OutOfMemory OutOfMemory is at h b = tt

-- ---- the whole

member_led : (t u p : Tree) → merged_at (Some t) (Some p) ≡ Some u → merge_patch t p ≡ u
member_led t u null h = cc
member_led t u p h = by p h
  where
    by : (q : Tree) → left_by q (merge_patch t q) ≡ Some u → merge_patch t q ≡ u
    by null e = cc
    by _ e = cc

pub whole_given : (t u p : Tree) → IsChange (Some t) (Some u) (Some p) → Leads t u p
whole_given t u p h = member_led t u p h.1

pub whole_error : (t u : Tree) (e : NoMergePatch) → ¬ (u ≡ null) → Changes (Some t) u (Err e) → GivesMergePatch t u (Err e)
whole_error t u (Null place) some h = (h.0, λ p s led. h.1 (Some p) s (by p led))
  where
    by : (p : Tree) → merge_patch t p ≡ u → merged_at (Some t) (Some p) ≡ Some u
    by null led = absurd (some (sym led))
    by (object ps) led = ap Some led
    by _ led = ap Some led
whole_error t u OutOfMemory some h = tt
