-- The trees of values: their characters are scalar values, their numbers have the one form, their keys rise.
use Rattle.std.specs.Prelude.{◌≡◌, ℕ, List, ⊤, IsTrue}
use Rattle.std.specs.Int.{Width}
use Rattle.std.specs.Str.{all_scalars}
use Rattle.std.specs.declared.cmp.Ordering.TheVariants.{Less}
use Rattle.tinyjson_number.specs.Canonical.{IsDecimalAt}
use Rattle.tinyjson_number.specs.Numeral.{power_width}
use Rattle.tinyjson_grammar.specs.Tree.{Tree, Items, Members, null, boolean, number, string}
use Rattle.tinyjson_grammar.specs.Tree.{array, object, no_items, item, no_members, member}
use Rattle.tinyjson_grammar.specs.Tree.{key_cmp}

-- the key is below the first of the members
abbrev pub IsBelow : List ℕ → Members → Type 0
IsBelow k no_members = ⊤
IsBelow k (member l u ms) = key_cmp k l ≡ Less

-- the keys rise strictly
abbrev pub IsSorted : Members → Type 0
IsSorted no_members = ⊤
IsSorted (member k t ms) = IsBelow k ms × IsSorted ms

-- characters are Unicode scalar values, decimals are canonical and their powers fit the width, keys rise strictly
abbrev mutual
  pub IsTreeAt : Width → Tree → Type 0
  IsTreeAt width null = ⊤
  IsTreeAt width (boolean b) = ⊤
  IsTreeAt width (number d) = IsDecimalAt width d
  IsTreeAt width (string cs) = IsTrue (all_scalars cs)
  IsTreeAt width (array ts) = AreItemsAt width ts
  IsTreeAt width (object ms) = AreMembersAt width ms × IsSorted ms

  pub AreItemsAt : Width → Items → Type 0
  AreItemsAt width no_items = ⊤
  AreItemsAt width (item t ts) = IsTreeAt width t × AreItemsAt width ts

  pub AreMembersAt : Width → Members → Type 0
  AreMembersAt width no_members = ⊤
  AreMembersAt width (member k t ms) = IsTrue (all_scalars k) × IsTreeAt width t × AreMembersAt width ms

abbrev pub IsTree : Tree → Type 0
IsTree t = IsTreeAt power_width t
