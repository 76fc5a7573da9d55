-- The objects of operations; for private contracts.
use Rattle.std.specs.Prelude.{ℕ, List, codes}
use Rattle.tinyjson.specs.Tree.{Tree, string, object, Members, no_members, put}
use Rattle.tinyjson_pointer.specs.Text.{pointer_text}

abbrev pub named : List ℕ → List (List ℕ) → Members
named name path = put (codes "path") (string (pointer_text path)) (put (codes "op") (string name) no_members)

abbrev pub with_value : List ℕ → List (List ℕ) → Tree → Tree
with_value name path u = object (put (codes "value") u (named name path))
