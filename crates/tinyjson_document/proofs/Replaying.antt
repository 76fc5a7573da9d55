-- What is left of a value that is passed to events.
use Rattle.std.proofs.Common.{◌≡◌, ℕ, ◌+◌, ◌<◌, List, [], ◌∷◌, ◌++◌, Result, Ok, Err, OnOk, refl, sym, ◌∙◌, ap, subst, arith}
use Rattle.std.specs.Prelude.{⊤}
use mathlib.Core.Logic.{∥∥₁_elim}
use Rattle.tinyjson_grammar.specs.Kind.{kind_of}
use Rattle.tinyjson_grammar.specs.declared.kind.JsonKind.TheVariants as kind
use Rattle.tinyjson_grammar.specs.Soundness.{IsTree, IsBelow, IsSorted}
use Rattle.tinyjson_grammar.specs.Tree.{Tree, null, boolean, number, string, array, object, literal_tree}
use Rattle.tinyjson_grammar.specs.Tree.{items_of, Items, no_items, item, Members, no_members, member, put}
use Rattle.tinyjson_grammar.proofs.Callers.{join, IsAbove, put_above, join_join, above_join}
use Rattle.tinyjson.specs.Events.{Open, in_array, at_key, at_value, Puts}
use Rattle.tinyjson_document.specs.Comparing.{weight, items_weight, members_weight}
use Rattle.tinyjson_document.specs.Document.{items_left, members_left}
use Rattle.tinyjson_document.specs.Known.{Tree_set}
use Rattle.tinyjson_document.specs.Parts.{boolean_in, items_in, members_in}
use Rattle.tinyjson_document.specs.Replaying.{after, put_members, Encloses, Waits, left_weight}
use Rattle.tinyjson_document.specs.declared.iterators.Items.{Items as ItemsLeft}
use Rattle.tinyjson_document.specs.declared.iterators.Members.{Members as MembersLeft}
use Rattle.tinyjson_document.specs.declared.sending.Left.{Left}
use Rattle.tinyjson_document.specs.declared.sending.Left.TheVariants as left

-- ---- items and members in turn

after_last : (ts : List Tree) (t : Tree) (xs : Items) → after (ts ++ t ∷ []) xs ≡ after ts (item t xs)
after_last [] t xs = refl
after_last (u ∷ ts) t xs = ap (item u) (after_last ts t xs)

after_none : (ts : List Tree) → after ts no_items ≡ items_of ts
after_none [] = refl
after_none (t ∷ ts) = ap (item t) (after_none ts)

join_none : (ms : Members) → join ms no_members ≡ ms
join_none no_members = refl
join_none (member k t ms) = ap (member k t) (join_none ms)

-- the first of the members is above the others
abbrev IsFirstAbove : Members → Members → Type 0
IsFirstAbove ns no_members = ⊤
IsFirstAbove ns (member k t ms) = IsAbove k ns

next_above : (k : List ℕ) (t : Tree) (ns ms : Members) → IsAbove k ns → IsBelow k ms → IsFirstAbove (join ns (member k t no_members)) ms
next_above k t ns no_members a b = tt
next_above k t ns (member l u ms) a b = above_join k l t ns b a

put_joined : (ns ms : Members) → IsFirstAbove ns ms → IsSorted ms → put_members ns ms ≡ join ns ms
put_joined ns no_members a s = sym (join_none ns)
put_joined ns (member k t ms) a s =
    ap (λ x. put_members x ms) (put_above k t ns a)
    ∙ (put_joined (join ns (member k t no_members)) ms (next_above k t ns ms a s.0) s.1
    ∙ join_join ns (member k t no_members) ms)

first_above : (ms : Members) → IsFirstAbove no_members ms
first_above no_members = tt
first_above (member k t ms) = tt

-- members whose keys rise, put one by one, are the same members
pub put_sorted : (ms : Members) → IsSorted ms → put_members no_members ms ≡ ms
put_sorted ms s = put_joined no_members ms (first_above ms) s

-- ---- a value by its kind

pub whole_array : (t : Tree) → kind_of t ≡ kind.Array → array (after [] (items_in t)) ≡ t
whole_array (array ts) e = refl
whole_array null e = cc
whole_array (boolean b) e = cc
whole_array (number d) e = cc
whole_array (string cs) e = cc
whole_array (object ms) e = cc

whole_sorted : (t : Tree) → kind_of t ≡ kind.Object → IsTree t → object (put_members no_members (members_in t)) ≡ t
whole_sorted (object ms) e s = ap object (put_sorted ms s.1)
whole_sorted null e s = cc
whole_sorted (boolean b) e s = cc
whole_sorted (number d) e s = cc
whole_sorted (string cs) e s = cc
whole_sorted (array ts) e s = cc

pub whole_object : (t : Tree) → kind_of t ≡ kind.Object → ∥ IsTree t ∥₁ → object (put_members no_members (members_in t)) ≡ t
whole_object t e s = ∥∥₁_elim s (Tree_set _ _) (whole_sorted t e)

pub array_weight : (t : Tree) → kind_of t ≡ kind.Array → weight t ≡ 2 + items_weight (items_in t)
array_weight (array ts) e = refl
array_weight null e = cc
array_weight (boolean b) e = cc
array_weight (number d) e = cc
array_weight (string cs) e = cc
array_weight (object ms) e = cc

pub object_weight : (t : Tree) → kind_of t ≡ kind.Object → weight t ≡ 2 + members_weight (members_in t)
object_weight (object ms) e = refl
object_weight null e = cc
object_weight (boolean b) e = cc
object_weight (number d) e = cc
object_weight (string cs) e = cc
object_weight (array ts) e = cc

pub some_weight : (t : Tree) → 1 < weight t
some_weight (array ts) = omega arith
some_weight (object ms) = omega arith
some_weight null = omega arith
some_weight (boolean b) = omega arith
some_weight (number d) = omega arith
some_weight (string cs) = omega arith

pub weight_last : (rs : List Left) (r : Left) → left_weight (rs ++ r ∷ []) ≡ left_weight (r ∷ rs)
weight_last [] r = refl
weight_last (left.Items xs ∷ rs) (left.Items ys) = omega (arith, weight_last rs (left.Items ys))
weight_last (left.Items xs ∷ rs) (left.Members ns) = omega (arith, weight_last rs (left.Members ns))
weight_last (left.Members ms ∷ rs) (left.Items ys) = omega (arith, weight_last rs (left.Items ys))
weight_last (left.Members ms ∷ rs) (left.Members ns) = omega (arith, weight_last rs (left.Members ns))

-- ---- what is left

module _ {E : Type 0} (holds : E → List Open → Type 0) (is : E → Tree → Type 0) (os : List Open) (t : Tree) where
  -- a value is complete
  pub completed : (rs : List Left) (fs : List Open) (u : Tree) (e : E) → Puts holds is fs u e → Encloses rs fs os u t
      → Waits holds is os t rs e
  completed [] fs u e p n = subst (λ v. Puts holds is os v e) n.1 (subst (λ gs. Puts holds is gs u e) n.0 p)
  completed (left.Items xs ∷ rs) [] u e p n = absurd n
  completed (left.Items xs ∷ rs) (in_array ts ∷ fs) u e p n =
      (ts ++ u ∷ [], fs, p, subst (λ x. Encloses rs fs os (array x) t) (sym (after_last ts u (items_left xs))) n)
  completed (left.Items xs ∷ rs) (at_key ns ∷ fs) u e p n = absurd n
  completed (left.Items xs ∷ rs) (at_value ns k ∷ fs) u e p n = absurd n
  completed (left.Members ms ∷ rs) [] u e p n = absurd n
  completed (left.Members ms ∷ rs) (in_array ts ∷ fs) u e p n = absurd n
  completed (left.Members ms ∷ rs) (at_key ns ∷ fs) u e p n = absurd n
  completed (left.Members ms ∷ rs) (at_value ns k ∷ fs) u e p n = (put k u ns, fs, p, n)

  module _ (rs : List Left) where
    -- an array that goes on with u
    module _ (xs ys : ItemsLeft) (u : Tree) (split : items_left xs ≡ item u (items_left ys)) (e : E)
        (w : Waits holds is os t (left.Items xs ∷ rs) e) where
      pub item_encloses : Encloses (left.Items ys ∷ rs) (in_array w.0 ∷ w.1) os u t
      item_encloses = subst (λ x. Encloses rs w.1 os (array (after w.0 x)) t) split w.3

      pub item_put : (d : E) → Puts holds is (in_array w.0 ∷ w.1) u d → Waits holds is os t (left.Items ys ∷ rs) d
      item_put d p = completed (left.Items ys ∷ rs) (in_array w.0 ∷ w.1) u d p item_encloses

    -- an array that is complete
    pub items_closed : (xs : ItemsLeft) → items_left xs ≡ no_items → (e d : E) (w : Waits holds is os t (left.Items xs ∷ rs) e)
        → Puts holds is w.1 (array (items_of w.0)) d → Waits holds is os t rs d
    items_closed xs none e d w p =
        let is_all : after w.0 (items_left xs) ≡ items_of w.0 = ap (after w.0) none ∙ after_none w.0 in
        completed rs w.1 (array (items_of w.0)) d p (subst (λ x. Encloses rs w.1 os (array x) t) is_all w.3)

    -- an object that goes on with u at k
    module _ (ms ns : MembersLeft) (k : List ℕ) (u : Tree) (split : members_left ms ≡ member k u (members_left ns)) (e : E)
        (w : Waits holds is os t (left.Members ms ∷ rs) e) where
      pub member_encloses : Encloses (left.Members ns ∷ rs) (at_value w.0 k ∷ w.1) os u t
      member_encloses = subst (λ x. Encloses rs w.1 os (object (put_members w.0 x)) t) split w.3

      pub member_put : (d : E) → Puts holds is (at_value w.0 k ∷ w.1) u d → Waits holds is os t (left.Members ns ∷ rs) d
      member_put d p = completed (left.Members ns ∷ rs) (at_value w.0 k ∷ w.1) u d p member_encloses

    -- an object that is complete
    pub members_closed : (ms : MembersLeft) → members_left ms ≡ no_members → (e d : E) (w : Waits holds is os t (left.Members ms ∷ rs) e)
        → Puts holds is w.1 (object w.0) d → Waits holds is os t rs d
    members_closed ms none e d w p =
        completed rs w.1 (object w.0) d p (subst (λ x. Encloses rs w.1 os (object (put_members w.0 x)) t) none w.3)

  -- a container is opened
  module _ (rs : List Left) (fs : List Open) (u : Tree) (e : E) (n : Encloses rs fs os u t) where
    pub items_opened : (xs : ItemsLeft) → items_left xs ≡ items_in u → kind_of u ≡ kind.Array → holds e (in_array [] ∷ fs)
        → Waits holds is os t (left.Items xs ∷ rs) e
    items_opened xs all k h =
        ([], fs, h, subst (λ x. Encloses rs fs os x t) (sym (whole_array u k) ∙ ap array (sym all)) n)

    pub members_opened : (ms : MembersLeft) → members_left ms ≡ members_in u → kind_of u ≡ kind.Object → ∥ IsTree u ∥₁
        → holds e (at_key no_members ∷ fs) → Waits holds is os t (left.Members ms ∷ rs) e
    members_opened ms all k s h = (
      no_members,
      fs,
      h,
      subst (λ x. Encloses rs fs os x t) (sym (whole_object u k s)
          ∙ ap (λ x. object (put_members no_members x)) (sym all)) n,
    )

-- ---- results

pub ok_map : {T E : Type 0} {A B : Type 0} (r : Result T E) → (A → B) → OnOk r A → OnOk r B
ok_map (Ok x) f a = f a
ok_map (Err e) f a = a

pub ok_always : {T E A : Type 0} (r : Result T E) → A → OnOk r A
ok_always (Ok x) a = a
ok_always (Err e) a = tt
