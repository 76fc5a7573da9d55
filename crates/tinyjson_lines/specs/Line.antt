-- The line of a value.
use Rattle.std.specs.Prelude.{ℕ, List, [], ◌∷◌, ◌++◌, encode_utf8_all}
use Rattle.tinyjson.specs.Characters.{line_feed}
use Rattle.tinyjson.specs.Text.{compact}
use Rattle.tinyjson.specs.Tree.{Tree}

-- the compact text in UTF-8, and a line feed
abbrev pub line_of : Tree → List ℕ
line_of t = encode_utf8_all (compact t) ++ line_feed ∷ []
