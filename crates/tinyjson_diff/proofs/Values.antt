-- Values beside what they lead to.
use Rattle.std.proofs.Common.{◌≡◌, ◌≤◌, ◌<◌, ◌+◌, ℕ, zero, suc, Bool, true, false, Option, Some}
use Rattle.std.proofs.Common.{None, option_map, unwrap_or, List, [], ◌∷◌, length, get_or, refl, sym, ap, ◌∙◌, subst, arith}
use Rattle.std.proofs.lemmas.Bool.{false≢true}
use Rattle.std.specs.Bool.{Decides}
use Rattle.tinyjson.proofs.Callers.{Entry, find_put_same, some_none}
use Rattle.tinyjson.specs.Access.{is_null, is_object}
use Rattle.tinyjson.specs.Equality.{tree_eq, tree_eq_Decides}
use Rattle.tinyjson.specs.Soundness.{IsSorted}
use Rattle.tinyjson.specs.Tree.{Tree, null, object, no_members, find}
use Rattle.tinyjson.specs.View.{view, text, members_view}
use Rattle.tinyjson_document.specs.Comparing.{weight, members_weight}
use Rattle.tinyjson_document.specs.Parts.{members_in}
use Rattle.tinyjson_view.proofs.Callers.{sorted_in, value_sound}
use Rattle.tinyjson_view.specs.Views.{tree_of, members_of}
use Rattle.tinyjson_view.specs.declared.view.MemberView.{MemberView}
use Rattle.tinyjson_view.specs.declared.view.ValueView.{ValueView}
use Rattle.tinyjson_diff.specs.Changes.{IsChange, KeepsAll, members_had, object_members}

-- what is no object leads to itself, and is the whole change
pub whole_keeps : (t p : Tree) → is_object t ≡ false → p ≡ t → KeepsAll t p
whole_keeps t p h is = subst (KeepsAll t) (sym is) (by t h)
  where
    by : (x : Tree) → is_object x ≡ false → KeepsAll x x
    by (object ms) e = cc
    by null e = (refl, tt)
    by _ e = (refl, tt)

pub whole_changed : (o : Option Tree) (u p : Tree) → is_object u ≡ false → ¬ (u ≡ null) → ¬ (o ≡ Some u) → p ≡ u
    → IsChange o (Some u) (Some p)
whole_changed o u p h some differ is = subst (λ x. IsChange o (Some u) (Some x)) (sym is) (by u h some differ)
  where
    by : (x : Tree) → is_object x ≡ false → ¬ (x ≡ null) → ¬ (o ≡ Some x) → IsChange o (Some x) (Some x)
    by (object ms) e s d = cc
    by null e s d = absurd (s refl)
    by _ e s d = (d, refl, tt)

-- ---- kinds

pub some_tree : (t : Tree) → false ≡ is_null t → ¬ (t ≡ null)
some_tree t h e = false≢true (h ∙ ap is_null e)

pub null_tree : (t : Tree) → true ≡ is_null t → t ≡ null
null_tree null e = refl
null_tree _ e = cc

pub object_tree : (t : Tree) → true ≡ is_object t → t ≡ object (members_in t)
object_tree (object ms) e = refl
object_tree _ e = cc

pub members_object : (t : Tree) → true ≡ is_object t → Some (members_in t) ≡ object_members (Some t)
members_object (object ms) e = refl
members_object _ e = cc

pub members_other : (t : Tree) → false ≡ is_object t → None ≡ object_members (Some t)
members_other (object ms) e = cc
members_other null e = refl
members_other _ e = refl

-- ---- the members of the old value, beside its tree

pub sorted_members : (v : ValueView) → IsSorted (members_in (tree_of v))
sorted_members v = sorted_in (tree_of v) (value_sound v)

pub sorted_old : (m : Option ValueView) → IsSorted (members_had m)
sorted_old None = tt
sorted_old (Some v) = sorted_members v

pub old_is : (m : Option ValueView) (o : Option Tree) → option_map (λ v. members_in (tree_of v)) m ≡ object_members o
    → members_had m ≡ unwrap_or (object_members o) no_members
old_is m o h = by m ∙ ap (λ x. unwrap_or x no_members) h
  where
    by : (n : Option ValueView) → members_had n ≡ unwrap_or (option_map (λ v. members_in (tree_of v)) n) no_members
    by None = refl
    by (Some v) = refl

-- ---- the members of the patch

pub empty_members : (es : List Entry) → length es ≡ 0 → members_view es ≡ no_members
empty_members [] h = refl
empty_members (e ∷ es) h = absurd (omega (arith, h))

pub no_entries : (es : List Entry) → members_view es ≡ no_members → length es ≡ 0
no_entries [] h = refl
no_entries (e ∷ es) h =
    absurd (some_none (view e.1) (sym (find_put_same (text e.0) (view e.1) (members_view es)) ∙ ap (find (text e.0)) h))

-- ---- a member of a list is lighter than the object

listed_weight : (ps : List MemberView) (i : ℕ) (x : MemberView) → i < length ps → x ≡ get_or ps i x
    → weight (tree_of x.value) ≤ members_weight (members_of ps)
listed_weight [] i x h e = absurd (omega (arith, h))
listed_weight (p ∷ ps) zero x h e =
    let same : weight (tree_of x.value) ≡ weight (tree_of p.value) = ap (λ (y : MemberView). weight (tree_of y.value)) e in
    omega (arith, same)
listed_weight (p ∷ ps) (suc i) x h e =
    let rest : weight (tree_of x.value) ≤ members_weight (members_of ps) = listed_weight ps i x (omega (arith, h)) e in
    omega (arith, rest)

pub lighter : (t : Tree) (ps : List MemberView) (i : ℕ) (x : MemberView) → true ≡ is_object t → members_of ps ≡ members_in t
    → i < length ps → x ≡ get_or ps i x → weight (tree_of x.value) < weight t
lighter t ps i x o all h e =
    let part : weight (tree_of x.value) ≤ members_weight (members_of ps) = listed_weight ps i x h e in
    let whole : weight t ≡ 2 + members_weight (members_of ps) =
    ap weight (object_tree t o) ∙ ap (λ ms. 2 + members_weight ms) (sym all) in
    omega (arith, part, whole)

-- ---- equality

equal_trees : (t u : Tree) → Decides (tree_eq t u) (Some t ≡ Some u)
equal_trees t u = let d = tree_eq_Decides t u in (λ h. ap Some (d.0 h), λ e. d.1 (one e))
  where
    one : Some t ≡ Some u → t ≡ u
    one e = cc

pub equal_told : (o : Option ValueView) (x : ValueView) (u : Tree) (b : Bool) → o ≡ Some x → b ≡ tree_eq (tree_of x) u
    → Decides b (option_map tree_of o ≡ Some u)
equal_told o x u b is e =
    subst (λ y. Decides b (option_map tree_of y ≡ Some u)) (sym is)
    (subst (λ c. Decides c (Some (tree_of x) ≡ Some u)) (sym e) (equal_trees (tree_of x) u))

pub none_told : (o : Option ValueView) (u : Tree) → o ≡ None → Decides false (option_map tree_of o ≡ Some u)
none_told o u is =
    subst (λ y. Decides false (option_map tree_of y ≡ Some u)) (sym is)
    (λ h. absurd (false≢true h), λ e. absurd (some_none u (sym e)))
