-- What is left of a changed value that is passed to events. For private contracts.
use Rattle.std.specs.Prelude.{◌≡◌, ℕ, ◌+◌, List, [], ◌∷◌, String}
use Rattle.std.specs.VecDeque.Iter.{deque_iter_rest}
use Rattle.std.specs.declared.alloc.Global.{Global}
use Rattle.tinyjson.specs.Events.{Open, in_array, at_key, at_value, Puts}
use Rattle.tinyjson.specs.View.{text}
use Rattle.tinyjson_grammar.specs.Tree.{Tree, array, object, item, Members, no_members, member, put}
use Rattle.tinyjson_document.specs.Comparing.{items_weight, members_weight}
use Rattle.tinyjson_document.specs.Replaying.{after, put_members}
use Rattle.tinyjson_patch.specs.private.Edited.{items_tree, seen_entries}
use Rattle.tinyjson_patch.specs.declared.edit.edited.Edited.{Edited}
use Rattle.tinyjson_patch.specs.declared.edit.write.Left.{Left}
use Rattle.tinyjson_patch.specs.declared.edit.write.Left.TheVariants as left

-- the entries as members, in their order
abbrev pub members_listed : List (String Global × Tree) → Members
members_listed [] = no_members
members_listed (e ∷ es) = member (text e.0) e.1 (members_listed es)

abbrev pub listed : List (String Global × Edited) → Members
listed es = members_listed (seen_entries es)

-- The open containers await the value u, the innermost first. With it and all that is left, t is put where os are open.
abbrev pub Encloses : List Left → List Open → List Open → Tree → Tree → Type 0
Encloses [] fs os u t = (fs ≡ os) × (u ≡ t)
Encloses (left.Items is ∷ rs) (in_array ts ∷ fs) os u t = Encloses rs fs os (array (after ts (item u (items_tree (deque_iter_rest is))))) t
Encloses (left.Members ms ∷ rs) (at_value ns k ∷ fs) os u t = Encloses rs fs os (object (put_members (put k u ns) (listed ms))) t
Encloses _ _ os u t = ⊥

-- The events have all of t but what is left; nothing is left: t was put where os are open.
abbrev pub Waits : {E : Type 0} → (E → List Open → Type 0) → (E → Tree → Type 0) → List Open → Tree → List Left → E → Type 0
Waits holds is os t [] e = Puts holds is os t e
Waits holds is os t (left.Items xs ∷ rs) e =
    (ts : List Tree) × (fs : List Open) × holds e (in_array ts ∷ fs)
    × Encloses rs fs os (array (after ts (items_tree (deque_iter_rest xs)))) t
Waits holds is os t (left.Members ms ∷ rs) e =
    (ns : Members) × (fs : List Open) × holds e (at_key ns ∷ fs) × Encloses rs fs os (object (put_members ns (listed ms))) t

-- how much is left
abbrev pub left_weight : List Left → ℕ
left_weight [] = 0
left_weight (left.Items xs ∷ rs) = 1 + items_weight (items_tree (deque_iter_rest xs)) + left_weight rs
left_weight (left.Members ms ∷ rs) = 1 + members_weight (listed ms) + left_weight rs
