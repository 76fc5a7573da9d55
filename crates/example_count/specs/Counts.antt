-- The number of values of a kind in a tree.
use Rattle.std.specs.Prelude.{ℕ, ◌+◌, ◌≤◌, List, [], ◌∷◌}
use Rattle.example_count.specs.declared.counts.Counts.{Counts}
use Rattle.tinyjson.specs.Events.{Open, in_array, at_key, at_value}
use Rattle.tinyjson.specs.Tree.{Tree, Items, Members, null, boolean, number, string, array, object}
use Rattle.tinyjson.specs.Tree.{no_items, item, no_members, member, items_of}
use Rattle.tinyjson.specs.JsonKind.{JsonKind}
use Rattle.tinyjson.specs.JsonKind.TheVariants as kind

-- 1 if the kinds are the same, else 0
abbrev pub one : JsonKind → JsonKind → ℕ
one kind.Null kind.Null = 1
one kind.Boolean kind.Boolean = 1
one kind.Number kind.Number = 1
one kind.String kind.String = 1
one kind.Array kind.Array = 1
one kind.Object kind.Object = 1
one k j = 0

-- the tree itself, and all values in it; of a text's equal keys the tree has only one
abbrev mutual
  pub count : JsonKind → Tree → ℕ
  count k null = one k kind.Null
  count k (boolean b) = one k kind.Boolean
  count k (number d) = one k kind.Number
  count k (string cs) = one k kind.String
  count k (array ts) = one k kind.Array + items_count k ts
  count k (object ms) = one k kind.Object + members_count k ms

  pub items_count : JsonKind → Items → ℕ
  items_count k no_items = 0
  items_count k (item t ts) = count k t + items_count k ts

  pub members_count : JsonKind → Members → ℕ
  members_count k no_members = 0
  members_count k (member l t ms) = count k t + members_count k ms

-- the count of a kind
abbrev pub counted : Counts → JsonKind → ℕ
counted e kind.Null = e.nulls
counted e kind.Boolean = e.booleans
counted e kind.Number = e.numbers
counted e kind.String = e.strings
counted e kind.Array = e.arrays
counted e kind.Object = e.objects

-- each count is at least that of the tree
abbrev pub AtLeast : Counts → Tree → Type 0
AtLeast e t = (k : JsonKind) → count k t ≤ counted e k

-- each count has grown by at least that of the tree
abbrev pub Adds : Counts → Counts → Tree → Type 0
Adds s e t = (k : JsonKind) → counted s k + count k t ≤ counted e k

-- the values in the open containers, and these containers
abbrev pub open_count : JsonKind → List Open → ℕ
open_count k [] = 0
open_count k (in_array ts ∷ os) = count k (array (items_of ts)) + open_count k os
open_count k (at_key ms ∷ os) = count k (object ms) + open_count k os
open_count k (at_value ms l ∷ os) = count k (object ms) + open_count k os
