-- A merge of documents under way: what is left, and one member of the patch after the other.
use Rattle.std.proofs.Common.{◌≡◌, ℕ, ◌+◌, List, [], ◌∷◌, ◌++◌, Option, None, Some, unwrap_or, Result, Ok, Err, OnOk}
use Rattle.std.proofs.Common.{refl, sym, ◌∙◌, ap, subst, arith}
use Rattle.std.proofs.Common.{◌<◌, Bool, Less, true, false}
use Rattle.std.proofs.lemmas.Str.{encodes-chars}
use Rattle.std.specs.Cmp.Lexicographic.{slice_cmp}
use Rattle.std.specs.Ordering.{nat_cmp}
use Rattle.std.specs.Prelude.{option_map}
use Rattle.std.specs.Str.{IsUtf8, chars}
use mathlib.Core.Logic.{∥∥₁_elim, ∥∥₁_map}
use Rattle.tinyjson.specs.Access.{is_null, is_object}
use Rattle.tinyjson.specs.Events.{Open, in_array, at_key, at_value, Puts}
use Rattle.tinyjson_grammar.specs.Soundness.{IsTree, IsBelow, IsSorted}
use Rattle.tinyjson_grammar.specs.Tree.{Tree, null, boolean, number, string, array, object}
use Rattle.tinyjson_grammar.specs.Tree.{Members, no_members, member, put, key_cmp}
use Rattle.tinyjson_document.proofs.Callers.{members_sound}
use Rattle.tinyjson_document.proofs.Callers.{put_sorted}
use Rattle.tinyjson_document.specs.Comparing.{weight, members_weight}
use Rattle.tinyjson_document.specs.Document.{members_left}
use Rattle.tinyjson_document.specs.Known.{Tree_set}
use Rattle.tinyjson_document.specs.Parts.{members_in}
use Rattle.tinyjson_document.specs.Replaying.{put_members}
use Rattle.tinyjson_document.specs.declared.iterators.Members.{Members as MembersLeft}
use Rattle.tinyjson_patch.specs.Merge.{members_of, merge_patch, merge_members}
use Rattle.tinyjson_patch.specs.Merging.{at_first, had, merged_left, Encloses, Waits, Leads, left_weight}
use Rattle.tinyjson_patch.specs.declared.merge_document.Left.{Left}
use Rattle.tinyjson_patch.proofs.Beside.{left_first, merge_first, merge_past}
use Rattle.tinyjson_patch.proofs.Merging.{sorted_merge}

-- ---- kinds

pub object_members : (t : Tree) → is_object t ≡ true → object (members_in t) ≡ t
object_members (object ms) e = refl
object_members null e = cc
object_members (boolean b) e = cc
object_members (number d) e = cc
object_members (string cs) e = cc
object_members (array ts) e = cc

pub object_weighs : (t : Tree) → is_object t ≡ true → weight t ≡ 2 + members_weight (members_in t)
object_weighs (object ms) e = refl
object_weighs null e = cc
object_weighs (boolean b) e = cc
object_weighs (number d) e = cc
object_weighs (string cs) e = cc
object_weighs (array ts) e = cc

pub is_the_null : (t : Tree) → is_null t ≡ true → t ≡ null
is_the_null null e = refl
is_the_null (boolean b) e = cc
is_the_null (number d) e = cc
is_the_null (string cs) e = cc
is_the_null (array ts) e = cc
is_the_null (object ms) e = cc

-- a patch that is no object replaces the target
pub replaces : (t p : Tree) → is_object p ≡ false → p ≡ merge_patch t p
replaces t (object ps) e = cc
replaces t null e = refl
replaces t (boolean b) e = refl
replaces t (number d) e = refl
replaces t (string cs) e = refl
replaces t (array ts) e = refl

members_same : (t : Tree) → members_in t ≡ members_of t
members_same (object ms) = refl
members_same null = refl
members_same (boolean b) = refl
members_same (number d) = refl
members_same (string cs) = refl
members_same (array ts) = refl

pub had_of : {A : Type 0} (tree_of : A → Tree) (x : A) (ms : MembersLeft) → members_left ms ≡ members_in (tree_of x)
    → had (Some ms) ≡ members_of (unwrap_or (option_map tree_of (Some x)) null)
had_of tree_of x ms e = e ∙ members_same (tree_of x)

pub weight_last : (ls : List Left) (l : Left) → left_weight (ls ++ l ∷ []) ≡ left_weight (l ∷ ls)
weight_last [] l = refl
weight_last (m ∷ ls) l = omega (arith, weight_last ls l)

pub some_weight : (t : Tree) → 1 < weight t
some_weight (array ts) = omega arith
some_weight (object ms) = omega arith
some_weight null = omega arith
some_weight (boolean b) = omega arith
some_weight (number d) = omega arith
some_weight (string cs) = omega arith

pub same_order : (a b : List ℕ) → IsUtf8 a → IsUtf8 b → slice_cmp nat_cmp a b ≡ key_cmp (chars a) (chars b)
same_order a b u v = (λ i. slice_cmp nat_cmp (sym (encodes-chars a u) i) (sym (encodes-chars b v) i))

-- ---- sorted members

sorted_of : (t : Tree) (ms : Members) → t ≡ object ms → IsTree t → IsSorted ms
sorted_of (object ns) ms e s = subst IsSorted (object_same ns ms e) s.1
  where
    object_same : (a b : Members) → object a ≡ object b → a ≡ b
    object_same a b h = cc
sorted_of null ms e s = cc
sorted_of (boolean b) ms e s = cc
sorted_of (number d) ms e s = cc
sorted_of (string cs) ms e s = cc
sorted_of (array ts) ms e s = cc

left_sorted : (ms : MembersLeft) → ∥ IsSorted (members_left ms) ∥₁
left_sorted ms = ∥∥₁_map (members_sound ms) (λ s. s.1)

had_sorted : (o : Option MembersLeft) → ∥ IsSorted (had o) ∥₁
had_sorted None = ∣ tt ∣₁
had_sorted (Some ms) = left_sorted ms

-- ---- one member of the patch

module _ (l m : Left) (k : List ℕ) (p : Tree) (split : members_left l.patch ≡ member k p (members_left m.patch)) (ns os : Members)
    (old : Option Tree) (leads : Leads k ns (had l.target) os old (had m.target)) where
  abbrev now : Members
  now = merge_members (had m.target) (members_left m.patch)

  passed : object (put_members ns (merged_left l)) ≡ object (put_members os (left_first k p (unwrap_or old null) now))
  passed = ∥∥₁_elim (left_sorted l.patch) (Tree_set _ _) (λ s. ∥∥₁_elim (had_sorted m.target) (Tree_set _ _) (λ r.
      ∥∥₁_elim leads.below (Tree_set _ _) (λ b.
      let sorted = subst IsSorted split s in
      ap (λ x. object (put_members ns (merge_members (had l.target) x))) split
      ∙ (ap object (leads.merged p (members_left m.patch) sorted)
      ∙ ap (λ x. object (put_members os x)) (merge_first k p old (had m.target) (members_left m.patch) sorted b r)))))

  pub passed_null : is_null p ≡ true → object (put_members ns (merged_left l)) ≡ object (put_members os (merged_left m))
  passed_null e = passed ∙ ap (λ x. object (put_members os (left_first k x (unwrap_or old null) now))) (is_the_null p e)

  pub passed_value : is_null p ≡ false
      → object (put_members ns (merged_left l)) ≡ object (put_members (put k (merge_patch (unwrap_or old null) p) os) (merged_left m))
  passed_value e = passed ∙ by p e
    where
      by : (q : Tree) → is_null q ≡ false → object (put_members os (left_first k q (unwrap_or old null) now))
          ≡ object (put_members (put k (merge_patch (unwrap_or old null) q) os) now)
      by null h = cc
      by (boolean b) h = refl
      by (number d) h = refl
      by (string cs) h = refl
      by (array ts) h = refl
      by (object qs) h = refl

-- ---- what is left

module _ {E : Type 0} (holds : E → List Open → Type 0) (is : E → Tree → Type 0) (os : List Open) (t : Tree) where
  -- a value is complete
  pub completed : (ls : List Left) (fs : List Open) (u : Tree) (e : E) → Puts holds is fs u e → Encloses ls fs os u t
      → Waits holds is os t ls e
  completed [] fs u e p n = subst (λ v. Puts holds is os v e) n.1 (subst (λ gs. Puts holds is gs u e) n.0 p)
  completed (l ∷ ls) [] u e p n = absurd n
  completed (l ∷ ls) (in_array ts ∷ fs) u e p n = absurd n
  completed (l ∷ ls) (at_key ns ∷ fs) u e p n = absurd n
  completed (l ∷ ls) (at_value ns k ∷ fs) u e p n = (put k u ns, fs, p, n)

  module _ (ls : List Left) where
    -- an object of the patch is opened, beside u
    pub opened : (fs : List Open) (u p : Tree) (l : Left) (e : E) → is_object p ≡ true → had l.target ≡ members_of u
        → members_left l.patch ≡ members_in p → Encloses ls fs os (merge_patch u p) t → holds e (at_key no_members ∷ fs)
        → Waits holds is os t (l ∷ ls) e
    opened fs u p l e i et ep n h = (no_members, fs, h, subst (λ x. Encloses ls fs os x t) whole n)
      where
        whole : merge_patch u p ≡ object (put_members no_members (merged_left l))
        whole = ∥∥₁_elim (had_sorted l.target) (Tree_set _ _) (λ s.
            ap (merge_patch u) (sym (object_members p i))
            ∙ (ap (λ x. object (merge_members x (members_in p))) (sym et)
            ∙ (ap (λ x. object (merge_members (had l.target) x)) (sym ep)
            ∙ ap object (sym (put_sorted (merged_left l) (sorted_merge (had l.target) (members_left l.patch) s))))))

    module _ (l m : Left) (k : List ℕ) (p : Tree) (split : members_left l.patch ≡ member k p (members_left m.patch)) (e : E)
        (w : Waits holds is os t (l ∷ ls) e) (ns : Members) (old : Option Tree) (leads : Leads k w.0 (had l.target) ns old (had m.target))
      where
        -- null in the patch
        pub goes_null : is_null p ≡ true → (d : E) → holds d (at_key ns ∷ w.1) → Waits holds is os t (m ∷ ls) d
        goes_null i d h = (ns, w.1, h, subst (λ x. Encloses ls w.1 os x t) (passed_null l m k p split w.0 ns old leads i) w.3)

        -- another value
        pub goes_on : is_null p ≡ false → Encloses (m ∷ ls) (at_value ns k ∷ w.1) os (merge_patch (unwrap_or old null) p) t
        goes_on i = subst (λ x. Encloses ls w.1 os x t) (passed_value l m k p split w.0 ns old leads i) w.3

        -- one that is no object
        pub goes_scalar : is_null p ≡ false → is_object p ≡ false → (d : E) → Puts holds is (at_value ns k ∷ w.1) p d
            → Waits holds is os t (m ∷ ls) d
        goes_scalar i o d h = completed (m ∷ ls) (at_value ns k ∷ w.1) p d h
            (subst (λ x. Encloses (m ∷ ls) (at_value ns k ∷ w.1) os x t) (sym (replaces (unwrap_or old null) p o)) (goes_on i))

    -- an object is complete
    pub closed : (l : Left) → members_left l.patch ≡ no_members → (e d : E) (w : Waits holds is os t (l ∷ ls) e)
        → Puts holds is w.1 (object (put_members w.0 (had l.target))) d → Waits holds is os t ls d
    closed l none e d w h =
        completed ls w.1 _ d h (subst (λ x. Encloses ls w.1 os (object (put_members w.0 (merge_members (had l.target) x))) t) none w.3)

-- ---- members of the target below a key

-- the members so far, and what is left of those of the target, lead to the same merged members, whatever the patch has at the
-- key and above it
abbrev pub Same : List ℕ → Members → Members → Members → Members → Type 0
Same k ns ms os rest = (p : Tree) (ps : Members) → IsSorted (member k p ps)
    → put_members ns (merge_members ms (member k p ps)) ≡ put_members os (merge_members rest (member k p ps))

pub same_next : (k j : List ℕ) (u : Tree) (ns ms os rest more : Members) → rest ≡ member j u more → key_cmp j k ≡ Less
    → Same k ns ms os rest → Same k ns ms (put j u os) more
same_next k j u ns ms os rest more split less h = λ p ps s.
    h p ps s
    ∙ (ap (λ x. put_members os (merge_members x (member k p ps))) split
    ∙ ap (put_members os) (merge_past j u more (member k p ps) less s))

pub leads_none : (k : List ℕ) (ns ms os rest : Members) → rest ≡ no_members → Same k ns ms os rest → Leads k ns ms os None no_members
leads_none k ns ms os rest none h = record {
  below = ∣ tt ∣₁;
  merged = λ p ps s. h p ps s ∙ ap (λ x. put_members os (merge_members x (member k p ps))) none;
}

pub leads_there : (k j : List ℕ) (u : Tree) (ns ms os : Members) (left more : MembersLeft)
    → members_left left ≡ member j u (members_left more) → j ≡ k → Same k ns ms os (members_left left)
    → Leads k ns ms os (Some u) (members_left more)
leads_there k j u ns ms os left more split same h = record {
  below = ∥∥₁_map (left_sorted left) (λ s. subst (λ x. IsBelow x (members_left more)) same (subst IsSorted split s).0);
  merged = λ p ps s. h p ps s ∙ (ap (λ x. put_members os (merge_members x (member k p ps))) split
      ∙ ap (λ x. put_members os (merge_members (member x u (members_left more)) (member k p ps))) same);
}

pub leads_above : (k j : List ℕ) (u : Tree) (ns ms os rest more : Members) → rest ≡ member j u more → key_cmp k j ≡ Less
    → Same k ns ms os rest → Leads k ns ms os None rest
leads_above k j u ns ms os rest more split less h = record {
  below = ∣ subst (IsBelow k) (sym split) less ∣₁;
  merged = h;
}

-- ---- results

pub ok_map : {T E : Type 0} {A B : Type 0} (r : Result T E) → (A → B) → OnOk r A → OnOk r B
ok_map (Ok x) f a = f a
ok_map (Err e) f a = a

pub ok_always : {T E A : Type 0} (r : Result T E) → A → OnOk r A
ok_always (Ok x) a = a
ok_always (Err e) a = tt
