-- Containers that are open: each is without one of its parts. For private contracts.
use Rattle.std.specs.Prelude.{◌≡◌, ℕ, List, [], ◌∷◌, ◌++◌, String, Option, Some, None, Result, Ok, Err}
use Rattle.std.specs.Str.{chars}
use Rattle.std.specs.declared.alloc.Global.{Global}
use Rattle.tinyjson.specs.Index.{nth, with_nth}
use Rattle.tinyjson_grammar.specs.Tree.{Tree, array, object, no_items, find, put}
use Rattle.tinyjson_pointer.specs.Walk.{step, part_at, with_step, with_part}
use Rattle.tinyjson_patch.specs.private.Edited.{tree, Item, items_tree, members_tree}
use Rattle.tinyjson_patch.specs.declared.edit.change.ChangeError.{ChangeError}
use Rattle.tinyjson_patch.specs.declared.edit.change.ChangeError.TheVariants.{NoPlace, OutOfMemory}
use Rattle.tinyjson_patch.specs.declared.edit.edited.Edited.{Edited}
use Rattle.tinyjson_patch.specs.declared.edit.opened.Opened.{Opened}
use Rattle.tinyjson_patch.specs.declared.edit.opened.Opened.TheVariants as opened

-- the container with u in the place of the part
abbrev pub closed_once : Opened → Tree → Tree
closed_once (opened.Array items at) u = array (with_nth (items_tree items.items) at u)
closed_once (opened.Object members key) u = with_part (object (members_tree members.entries)) (chars key.now ∷ []) u

-- The outermost is the first.
abbrev pub closed : List Opened → Tree → Tree
closed [] u = u
closed (o ∷ os) u = closed_once o (closed os u)

-- The part p at the tokens was moved out of t, and the containers on the way were put behind os.
abbrev pub Descends : Tree → List (List ℕ) → Result (Unit {0}) ChangeError → List Opened → List Opened → Tree → Type 0
Descends t ks (Ok _) os os' p = (part_at t ks ≡ Some p) × ((u : Tree) → closed os' u ≡ closed os (with_part t ks u))
Descends t ks (Err NoPlace) os os' p = part_at t ks ≡ None
Descends t ks (Err OutOfMemory) os os' p = Unit {0}

abbrev pub StepsDown : Tree → List ℕ → Result (Unit {0}) ChangeError → List Opened → List Opened → Tree → Type 0
StepsDown t k (Ok _) os os' p = (step t k ≡ Some p) × ((u : Tree) → closed os' u ≡ closed os (with_step t k u))
StepsDown t k (Err NoPlace) os os' p = step t k ≡ None
StepsDown t k (Err OutOfMemory) os os' p = Unit {0}

abbrev pub Opens : Tree → List ℕ → Result (Opened × Edited) ChangeError → Type 0
Opens t k (Ok o) = (step t k ≡ Some (tree o.1)) × ((u : Tree) → closed_once o.0 u ≡ with_step t k u)
Opens t k (Err NoPlace) = step t k ≡ None
Opens t k (Err OutOfMemory) = Unit {0}

-- An empty array takes the place of what is moved out.
abbrev pub TakesMember : List (String Global × Edited) → List ℕ → Option Edited → List (String Global × Edited) → Type 0
TakesMember es k None es' = find k (members_tree es) ≡ None
TakesMember es k (Some e) es' =
    (find k (members_tree es) ≡ Some (tree e)) × (members_tree es' ≡ put k (array no_items) (members_tree es))

abbrev pub TakesItem : List Item → ℕ → Option Edited → List Item → Type 0
TakesItem bs i None bs' = nth (items_tree bs) i ≡ None
TakesItem bs i (Some e) bs' =
    (nth (items_tree bs) i ≡ Some (tree e)) × (items_tree bs' ≡ with_nth (items_tree bs) i (array no_items))

abbrev pub Pushes : List Opened → Opened → Result (Unit {0}) ChangeError → List Opened → Type 0
Pushes os o (Ok _) os' = os' ≡ os ++ o ∷ []
Pushes os o (Err NoPlace) os' = ⊥
Pushes os o (Err OutOfMemory) os' = Unit {0}
