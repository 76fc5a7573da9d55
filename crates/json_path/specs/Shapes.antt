-- What is written of the parts that a query selects.
use Rattle.std.specs.Prelude.{ℕ, Bool, true, false, List, [], ◌∷◌, ◌++◌, Option, None, Some, codes, encode_utf8_all}
use Rattle.tinyjson.specs.Characters.{line_feed}
use Rattle.tinyjson.specs.Text.{compact, indented}
use Rattle.tinyjson.specs.Tree.{Tree, string}
use Rattle.tinyjson_path.specs.Nodes.{Part, part_view}
use Rattle.tinyjson_path.specs.Paths.{path_text}
use Rattle.tinyjson_path.specs.declared.node.Located.{Located}
use Rattle.json_path.specs.declared.selected.Layout.{Layout}
use Rattle.json_path.specs.declared.selected.Layout.TheVariants.{Compact, Indented}
use Rattle.json_path.specs.declared.selected.Shape.{Shape}
use Rattle.json_path.specs.declared.selected.Shape.TheVariants.{Value, Raw, Path}

-- ---- on a line each

abbrev pub layout_text : Layout → Tree → List ℕ
layout_text Compact t = compact t
layout_text Indented t = indented t (codes "  ") 0

-- the characters of a string, or the text of another tree
abbrev pub raw_text : Layout → Tree → List ℕ
raw_text l (string cs) = cs
raw_text l t = layout_text l t

abbrev pub shape_text : Shape → Part → List ℕ
shape_text (Value l) p = layout_text l p.tree
shape_text (Raw l) p = raw_text l p.tree
shape_text Path p = path_text p.path

-- that in UTF-8, and a line feed
abbrev pub line_of : Shape → Part → List ℕ
line_of s p = encode_utf8_all (shape_text s p) ++ line_feed ∷ []

abbrev pub lines_of : Shape → List Part → List ℕ
lines_of s [] = []
lines_of s (p ∷ ps) = line_of s p ++ lines_of s ps

-- ---- as an array

-- the compact text of the value, or of the path as a string
abbrev pub item_text : Shape → Part → List ℕ
item_text (Value l) p = compact p.tree
item_text (Raw l) p = compact p.tree
item_text Path p = compact (string (path_text p.path))

-- that in UTF-8, behind a comma if it is not the first
abbrev pub next_text : Shape → Bool → Part → List ℕ
next_text s true p = encode_utf8_all (item_text s p)
next_text s false p = codes "," ++ encode_utf8_all (item_text s p)

abbrev pub items_text : Shape → Bool → List Part → List ℕ
items_text s is_first [] = []
items_text s is_first (p ∷ ps) = next_text s is_first p ++ items_text s false ps

abbrev pub array_line : Shape → List Part → List ℕ
array_line s ps = codes "[" ++ (items_text s true ps ++ (codes "]" ++ line_feed ∷ []))

-- ---- for private contracts

-- the part of the first node, if there is one, and those that come behind it
abbrev pub begun : Option Located → List Part → List Part
begun None ps = []
begun (Some n) ps = part_view n ∷ ps
