-- What a comparison under way has still to find the same, and how much of it is left. For private contracts.
use Rattle.std.specs.Prelude.{ℕ, zero, suc, ◌+◌, Bool, true, false, ◌&&◌, List, [], ◌∷◌, Option, Some}
use Rattle.std.specs.List.{list_all}
use Rattle.std.specs.Option.{option_eq}
use Rattle.std.specs.Bool.{beq}
use Rattle.std.specs.Str.{bytes_eq}
use Rattle.tinyjson.specs.Equality.{tree_eq, items_eq}
use Rattle.tinyjson_number.specs.Number.{decimal_eq}
use Rattle.tinyjson_grammar.specs.Tree.{Tree, null, boolean, number, string, array, object, find}
use Rattle.tinyjson_grammar.specs.Tree.{Items, no_items, item, Members, no_members, member}
use Rattle.tinyjson_document.specs.Document.{items_left, members_left}
use Rattle.tinyjson_document.specs.Parts.{items_in, members_in}
use Rattle.tinyjson_document.specs.declared.equality.Compared.{Compared}
use Rattle.tinyjson_document.specs.declared.equality.Compared.TheVariants as compared
use Rattle.tinyjson_document.specs.declared.equality.Rest.{Rest}
use Rattle.tinyjson_document.specs.declared.equality.Rest.TheVariants as rest
use Rattle.tinyjson_document.specs.declared.equality.Step.{Step}
use Rattle.tinyjson_document.specs.declared.equality.Step.TheVariants as step

-- there are both, and the test holds of them
abbrev pub both : {A : Type 0} → (A → A → Bool) → Option A → Option A → Bool
both f (Some a) (Some b) = f a b
both f _ _ = false

-- two scalars are the same
abbrev pub scalar_eq : Tree → Tree → Bool
scalar_eq null null = true
scalar_eq (boolean a) (boolean b) = beq a b
scalar_eq (number a) (number b) = decimal_eq a b
scalar_eq (string a) (string b) = bytes_eq a b
scalar_eq _ _ = false

abbrev pub items_from : ℕ → Items → Items
items_from zero ts = ts
items_from (suc i) no_items = no_items
items_from (suc i) (item t ts) = items_from i ts

-- the others have each of the members' trees at its key
abbrev pub are_among : Members → Members → Bool
are_among no_members ns = true
are_among (member k t ms) ns = option_eq tree_eq (Some t) (find k ns) && are_among ms ns

-- ---- how much there is to compare

abbrev mutual
  pub weight : Tree → ℕ
  weight (array ts) = 2 + items_weight ts
  weight (object ms) = 2 + members_weight ms
  weight _ = 2

  pub items_weight : Items → ℕ
  items_weight no_items = 0
  items_weight (item t ts) = weight t + items_weight ts

  pub members_weight : Members → ℕ
  members_weight no_members = 0
  members_weight (member k t ms) = weight t + members_weight ms

abbrev pub rest_weight : {V : Type 0} → Rest V → ℕ
rest_weight (rest.Items is other index) = 1 + items_weight (items_left is)
rest_weight (rest.Members ms other) = 1 + members_weight (members_left ms)

abbrev pub total : {V : Type 0} → List (Rest V) → ℕ
total [] = 0
total (r ∷ rs) = rest_weight r + total rs

abbrev pub compared_weight : {V : Type 0} → Compared V → ℕ
compared_weight (compared.Known same) = 0
compared_weight (compared.Inside r) = 1 + rest_weight r

abbrev pub step_weight : {V : Type 0} → Step V → ℕ
step_weight (step.Known same) = 0
step_weight (step.Inside inner outer) = rest_weight inner + rest_weight outer

-- ---- whether it is the same, where each view has a tree

module _ {V : Type 0} (tree_of : V → Tree) where
  abbrev pub rest_eq : Rest V → Bool
  rest_eq (rest.Items is other index) = items_eq (items_left is) (items_from index (items_in (tree_of other)))
  rest_eq (rest.Members ms other) = are_among (members_left ms) (members_in (tree_of other))

  abbrev pub rests_eq : List (Rest V) → Bool
  rests_eq rs = list_all rest_eq rs

  abbrev pub compared_eq : Compared V → Bool
  compared_eq (compared.Known same) = same
  compared_eq (compared.Inside r) = rest_eq r

  abbrev pub step_eq : Step V → Bool
  step_eq (step.Known same) = same
  step_eq (step.Inside inner outer) = rest_eq inner && rest_eq outer
