-- What is left of a changed value that is passed to events.
use Rattle.std.proofs.Common.{◌≡◌, List, [], ◌∷◌, ◌++◌, refl, sym, ◌∙◌, ap, subst, ◌+◌, arith}
use Rattle.std.specs.List.Sorted.{IsStrictlySortedBy}
use Rattle.std.specs.Map.{keys_of}
use Rattle.std.specs.String.{string_cmp}
use Rattle.std.specs.VecDeque.Iter.{deque_iter_rest}
use Rattle.std.specs.declared.collections.vec_deque.Iter.{Iter}
use Rattle.tinyjson.specs.Events.{Open, in_array, at_key, at_value, Puts}
use Rattle.tinyjson.specs.View.{text}
use Rattle.tinyjson_grammar.specs.Tree.{Tree, array, object, items_of, Items, no_items, item, no_members, put}
use Rattle.tinyjson_document.specs.Comparing.{weight, items_weight, members_weight}
use Rattle.tinyjson_document.proofs.Callers.{put_sorted}
use Rattle.tinyjson_document.specs.Replaying.{after, put_members}
use Rattle.tinyjson_patch.specs.private.Edited.{tree, Item, item_tree, items_tree, members_tree}
use Rattle.tinyjson_patch.specs.private.Writing.{listed, Encloses, Waits, left_weight}
use Rattle.tinyjson_patch.specs.declared.edit.write.Left.{Left}
use Rattle.tinyjson_patch.specs.declared.edit.write.Left.TheVariants as left
use Rattle.tinyjson_patch.proofs.Editing.Listed.{Entry, listed_sorted, members_are_listed}

-- the items that are left
abbrev pub ItemsLeft : Type 0
ItemsLeft = Iter Item

after_last : (ts : List Tree) (t : Tree) (xs : Items) → after (ts ++ t ∷ []) xs ≡ after ts (item t xs)
after_last [] t xs = refl
after_last (u ∷ ts) t xs = ap (item u) (after_last ts t xs)

after_none : (ts : List Tree) → after ts no_items ≡ items_of ts
after_none [] = refl
after_none (t ∷ ts) = ap (item t) (after_none ts)

-- the entries of a map, put one by one
pub all_put : (es : List Entry) → IsStrictlySortedBy string_cmp (keys_of es) → put_members no_members (listed es) ≡ members_tree es
all_put es s = put_sorted (listed es) (listed_sorted es s) ∙ sym (members_are_listed es s)

module _ {E : Type 0} (holds : E → List Open → Type 0) (is : E → Tree → Type 0) (os : List Open) (t : Tree) where
  -- a value is complete
  pub completed : (rs : List Left) (fs : List Open) (u : Tree) (e : E) → Puts holds is fs u e → Encloses rs fs os u t
      → Waits holds is os t rs e
  completed [] fs u e p n = subst (λ v. Puts holds is os v e) n.1 (subst (λ gs. Puts holds is gs u e) n.0 p)
  completed (left.Items xs ∷ rs) [] u e p n = absurd n
  completed (left.Items xs ∷ rs) (in_array ts ∷ fs) u e p n =
      (ts ++ u ∷ [], fs, p, subst (λ x. Encloses rs fs os (array x) t) (sym (after_last ts u (items_tree (deque_iter_rest xs)))) n)
  completed (left.Items xs ∷ rs) (at_key ns ∷ fs) u e p n = absurd n
  completed (left.Items xs ∷ rs) (at_value ns k ∷ fs) u e p n = absurd n
  completed (left.Members ms ∷ rs) [] u e p n = absurd n
  completed (left.Members ms ∷ rs) (in_array ts ∷ fs) u e p n = absurd n
  completed (left.Members ms ∷ rs) (at_key ns ∷ fs) u e p n = absurd n
  completed (left.Members ms ∷ rs) (at_value ns k ∷ fs) u e p n = (put k u ns, fs, p, n)

  module _ (rs : List Left) where
    -- an array that goes on with an item
    pub item_encloses : (xs ys : ItemsLeft) (x : Item) → deque_iter_rest xs ≡ x ∷ deque_iter_rest ys → (e : E)
        → (w : Waits holds is os t (left.Items xs ∷ rs) e) → Encloses (left.Items ys ∷ rs) (in_array w.0 ∷ w.1) os (item_tree x) t
    item_encloses xs ys x split e w = subst (λ zs. Encloses rs w.1 os (array (after w.0 (items_tree zs))) t) split w.3

    -- an array that is complete
    pub items_closed : (xs : ItemsLeft) → deque_iter_rest xs ≡ [] → (e d : E) (w : Waits holds is os t (left.Items xs ∷ rs) e)
        → Puts holds is w.1 (array (items_of w.0)) d → Waits holds is os t rs d
    items_closed xs none e d w p =
        let is_all : after w.0 (items_tree (deque_iter_rest xs)) ≡ items_of w.0 = ap (λ zs. after w.0 (items_tree zs)) none ∙ after_none w.0 in
        completed rs w.1 (array (items_of w.0)) d p (subst (λ x. Encloses rs w.1 os (array x) t) is_all w.3)

    -- an object that goes on with a member
    pub member_encloses : (ms ns : List Entry) (x : Entry) → ms ≡ x ∷ ns → (e : E) (w : Waits holds is os t (left.Members ms ∷ rs) e)
        → Encloses (left.Members ns ∷ rs) (at_value w.0 (text x.0) ∷ w.1) os (tree x.1) t
    member_encloses ms ns x split e w = subst (λ zs. Encloses rs w.1 os (object (put_members w.0 (listed zs))) t) split w.3

    -- an object that is complete
    pub members_closed : (ms : List Entry) → ms ≡ [] → (e d : E) (w : Waits holds is os t (left.Members ms ∷ rs) e)
        → Puts holds is w.1 (object w.0) d → Waits holds is os t rs d
    members_closed ms none e d w p =
        completed rs w.1 (object w.0) d p (subst (λ zs. Encloses rs w.1 os (object (put_members w.0 (listed zs))) t) none w.3)

  -- a container is opened
  module _ (rs : List Left) (fs : List Open) (u : Tree) (e : E) (n : Encloses rs fs os u t) where
    pub items_opened : (xs : ItemsLeft) → array (items_tree (deque_iter_rest xs)) ≡ u → holds e (in_array [] ∷ fs)
        → Waits holds is os t (left.Items xs ∷ rs) e
    items_opened xs all h = ([], fs, h, subst (λ x. Encloses rs fs os x t) (sym all) n)

    pub members_opened : (ms : List Entry) → IsStrictlySortedBy string_cmp (keys_of ms) → object (members_tree ms) ≡ u
        → holds e (at_key no_members ∷ fs) → Waits holds is os t (left.Members ms ∷ rs) e
    members_opened ms s all h =
        (no_members, fs, h, subst (λ x. Encloses rs fs os x t) (sym all ∙ ap object (sym (all_put ms s))) n)

-- ---- how much is left

pub weight_last : (rs : List Left) (r : Left) → left_weight (rs ++ r ∷ []) ≡ left_weight (r ∷ rs)
weight_last [] r = refl
weight_last (left.Items xs ∷ rs) (left.Items ys) = omega (arith, weight_last rs (left.Items ys))
weight_last (left.Items xs ∷ rs) (left.Members ns) = omega (arith, weight_last rs (left.Members ns))
weight_last (left.Members ms ∷ rs) (left.Items ys) = omega (arith, weight_last rs (left.Items ys))
weight_last (left.Members ms ∷ rs) (left.Members ns) = omega (arith, weight_last rs (left.Members ns))

-- an array and an object that are opened
pub array_weight : (xs : ItemsLeft) (u : Tree) → array (items_tree (deque_iter_rest xs)) ≡ u → weight u ≡ 2 + items_weight (items_tree (deque_iter_rest xs))
array_weight xs u all = ap weight (sym all)

pub object_weight : (ms : List Entry) (u : Tree) → IsStrictlySortedBy string_cmp (keys_of ms) → object (members_tree ms) ≡ u
    → weight u ≡ 2 + members_weight (listed ms)
object_weight ms u s all = ap weight (sym all) ∙ ap (λ ns. 2 + members_weight ns) (members_are_listed ms s)
