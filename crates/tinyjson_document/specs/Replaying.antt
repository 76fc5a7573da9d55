-- What is left of a value that is passed to events. For private contracts.
use Rattle.std.specs.Prelude.{◌≡◌, ℕ, ◌+◌, List, [], ◌∷◌}
use Rattle.tinyjson_grammar.specs.Tree.{Tree, array, object, Items, item, Members, no_members, member, put}
use Rattle.tinyjson.specs.Events.{Open, in_array, at_key, at_value, Puts}
use Rattle.tinyjson_document.specs.Comparing.{items_weight, members_weight}
use Rattle.tinyjson_document.specs.Document.{items_left, members_left}
use Rattle.tinyjson_document.specs.declared.sending.Left.{Left}
use Rattle.tinyjson_document.specs.declared.sending.Left.TheVariants as left

-- the items after these trees
abbrev pub after : List Tree → Items → Items
after [] is = is
after (t ∷ ts) is = item t (after ts is)

-- the members put at their keys in turn
abbrev pub put_members : Members → Members → Members
put_members ns no_members = ns
put_members ns (member k t ms) = put_members (put k t ns) ms

-- The open containers await the value u, the innermost first. With it and all that is left, t is put where os are open.
abbrev pub Encloses : List Left → List Open → List Open → Tree → Tree → Type 0
Encloses [] fs os u t = (fs ≡ os) × (u ≡ t)
Encloses (left.Items is ∷ rs) (in_array ts ∷ fs) os u t = Encloses rs fs os (array (after ts (item u (items_left is)))) t
Encloses (left.Members ms ∷ rs) (at_value ns k ∷ fs) os u t = Encloses rs fs os (object (put_members (put k u ns) (members_left ms))) t
Encloses _ _ os u t = ⊥

-- The events have all of t but what is left; nothing is left: t was put where os are open.
abbrev pub Waits : {E : Type 0} → (E → List Open → Type 0) → (E → Tree → Type 0) → List Open → Tree → List Left → E → Type 0
Waits holds is os t [] e = Puts holds is os t e
Waits holds is os t (left.Items xs ∷ rs) e =
    (ts : List Tree) × (fs : List Open) × holds e (in_array ts ∷ fs) × Encloses rs fs os (array (after ts (items_left xs))) t
Waits holds is os t (left.Members ms ∷ rs) e =
    (ns : Members) × (fs : List Open) × holds e (at_key ns ∷ fs) × Encloses rs fs os (object (put_members ns (members_left ms))) t

-- how much is left
abbrev pub left_weight : List Left → ℕ
left_weight [] = 0
left_weight (left.Items is ∷ rs) = 1 + items_weight (items_left is) + left_weight rs
left_weight (left.Members ms ∷ rs) = 1 + members_weight (members_left ms) + left_weight rs
