-- Documents without longer arrays than a memory can hold: the index of each item has a token.
use Rattle.std.specs.Prelude.{◌≤◌, ◌^◌, ⊤}
use Rattle.tinyjson.specs.Index.{item_count}
use Rattle.tinyjson.specs.Tree.{Tree, array, object, Items, no_items, item, Members, no_members, member}

-- Each array has at most 2^64 items.
abbrev mutual
  pub IsShort : Tree → Type 0
  IsShort (array ts) = (item_count ts ≤ 2 ^ 64) × AreShort ts
  IsShort (object ms) = HaveShort ms
  IsShort _ = ⊤

  pub AreShort : Items → Type 0
  AreShort no_items = ⊤
  AreShort (item t ts) = IsShort t × AreShort ts

  pub HaveShort : Members → Type 0
  HaveShort no_members = ⊤
  HaveShort (member k t ms) = IsShort t × HaveShort ms
