-- The text of a value as a program prints it.
use Rattle.std.specs.Prelude.{ℕ, Bool, true, false, List, [], ◌∷◌, ◌++◌, codes, encode_utf8_all}
use Rattle.tinyjson.specs.Characters.{line_feed}
use Rattle.tinyjson.specs.Text.{compact, indented}
use Rattle.tinyjson.specs.Tree.{Tree}

-- the text of a tree with a line feed, compact or indented with two spaces
abbrev pub laid_out : Bool → Tree → List ℕ
laid_out false t = encode_utf8_all (compact t) ++ line_feed ∷ []
laid_out true t = encode_utf8_all (indented t (codes "  ") 0) ++ line_feed ∷ []
