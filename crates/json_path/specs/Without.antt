-- What is left of a tree without some places of it.
use Rattle.std.specs.Prelude.{ℕ, ◌+◌, Bool, cond, List, [], ◌∷◌, ◌++◌, encode_utf8_all}
use Rattle.std.specs.List.{list_any}
use Rattle.std.specs.Str.{bytes_eq}
use Rattle.tinyjson.specs.Tree.{Tree, null, boolean, number, string, array, object, Items, no_items, item, Members, no_members, member}
use Rattle.tinyjson_path.specs.Nodes.{Part, Step, at_index, at_key}
use Rattle.tinyjson_path.specs.Paths.{path_text}

-- the normalized path of a place in UTF-8; each place has one (RFC 9535, 2.7)
abbrev pub path_bytes : List Step → List ℕ
path_bytes path = encode_utf8_all (path_text path)

-- whether one of the parts is at this place
abbrev pub is_at : List Part → List Step → Bool
is_at ps path = list_any (λ p. bytes_eq (path_bytes p.path) (path_bytes path)) ps

-- The tree at a path, without each place below it that is gone. An index counts also the items that are gone.
abbrev mutual
  pub without : (List Step → Bool) → List Step → Tree → Tree
  without gone path null = null
  without gone path (boolean b) = boolean b
  without gone path (number d) = number d
  without gone path (string cs) = string cs
  without gone path (array ts) = array (items_without gone path 0 ts)
  without gone path (object ms) = object (members_without gone path ms)

  pub items_without : (List Step → Bool) → List Step → ℕ → Items → Items
  items_without gone path i no_items = no_items
  items_without gone path i (item t ts) =
      cond (gone (path ++ at_index i ∷ [])) (items_without gone path (i + 1) ts)
      (item (without gone (path ++ at_index i ∷ []) t) (items_without gone path (i + 1) ts))

  pub members_without : (List Step → Bool) → List Step → Members → Members
  members_without gone path no_members = no_members
  members_without gone path (member k t ms) =
      cond (gone (path ++ at_key k ∷ [])) (members_without gone path ms)
      (member k (without gone (path ++ at_key k ∷ []) t) (members_without gone path ms))
