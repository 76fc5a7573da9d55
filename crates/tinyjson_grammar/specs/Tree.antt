-- A JSON value (RFC 8259, section 3), apart from how it is spelled or kept.
use Rattle.std.specs.Prelude.{ℕ, ◌+◌, max, Bool, true, false, List, [], ◌∷◌, encode_utf8_all, Option, Some, None, cond}
use Rattle.std.specs.Ordering.{nat_cmp, match_ordering}
use Rattle.std.specs.Str.{bytes_eq}
use Rattle.std.specs.Cmp.Lexicographic.{slice_cmp}
use Rattle.std.specs.declared.cmp.Ordering.{Ordering}
use Rattle.tinyjson_number.specs.Decimal.{Decimal}

mutual
  pub data Tree : Type 0 where
    null : Tree
    boolean : Bool → Tree
    number : Decimal → Tree
    string : List ℕ → Tree
    array : Items → Tree
    object : Members → Tree

  pub data Items : Type 0 where
    no_items : Items
    item : Tree → Items → Items

  -- A finite map from keys to trees, in the rising order of the keys.
  pub data Members : Type 0 where
    no_members : Members
    member : List ℕ → Tree → Members → Members

-- what a literal means: null, or a boolean
abbrev pub literal_tree : Option Bool → Tree
literal_tree None = null
literal_tree (Some b) = boolean b

-- keys are ordered by their bytes in UTF-8
abbrev pub key_cmp : List ℕ → List ℕ → Ordering
key_cmp k l = slice_cmp nat_cmp (encode_utf8_all k) (encode_utf8_all l)

abbrev pub put_at : Ordering → List ℕ → Tree → List ℕ → Tree → Members → Members → Members
put_at o k t l u ms more = match_ordering o (member k t (member l u ms)) (member k t ms) (member l u more)

-- the map with the tree at the key, in the place of what it had there
abbrev pub put : List ℕ → Tree → Members → Members
put k t no_members = member k t no_members
put k t (member l u ms) = put_at (key_cmp k l) k t l u ms (put k t ms)

-- the map without the key
abbrev pub remove : List ℕ → Members → Members
remove k no_members = no_members
remove k (member l u ms) = cond (bytes_eq k l) (remove k ms) (member l u (remove k ms))

-- the tree that the map has at the key
abbrev pub find : List ℕ → Members → Option Tree
find k no_members = None
find k (member l u ms) = cond (bytes_eq k l) (Some u) (find k ms)

abbrev pub items_of : List Tree → Items
items_of [] = no_items
items_of (t ∷ ts) = item t (items_of ts)

abbrev pub is_string : Tree → Bool
is_string (string k) = true
is_string null = false
is_string (boolean b) = false
is_string (number d) = false
is_string (array ts) = false
is_string (object ms) = false

-- the key that a tree is used as
abbrev pub key_of : Tree → List ℕ
key_of (string k) = k
key_of null = []
key_of (boolean b) = []
key_of (number d) = []
key_of (array ts) = []
key_of (object ms) = []

-- how many containers are nested at the most
abbrev mutual
  pub tree_depth : Tree → ℕ
  tree_depth null = 0
  tree_depth (boolean b) = 0
  tree_depth (number d) = 0
  tree_depth (string cs) = 0
  tree_depth (array ts) = 1 + items_depth ts
  tree_depth (object ms) = 1 + members_depth ms

  pub items_depth : Items → ℕ
  items_depth no_items = 0
  items_depth (item t ts) = max (tree_depth t) (items_depth ts)

  pub members_depth : Members → ℕ
  members_depth no_members = 0
  members_depth (member k t ms) = max (tree_depth t) (members_depth ms)
