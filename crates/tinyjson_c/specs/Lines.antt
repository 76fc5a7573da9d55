-- Texts that are lines.
use Rattle.std.specs.Prelude.{◌≡◌, ◌≢◌, ℕ, ◌+◌, List, [], ◌∷◌, ◌++◌, Option, length, take, drop, encode_utf8_all}
use Rattle.std.specs.List.{prefix_len}
use Rattle.tinyjson.specs.Text.{compact}
use Rattle.tinyjson_bytes.specs.Scan.{is_in_line}
use Rattle.tinyjson_c.specs.Stop.{IsStopped, IsTextOf, Stops}
use Rattle.tinyjson_c.specs.declared.place.TinyjsonPlace.{TinyjsonPlace}
use Rattle.tinyjson_c.specs.declared.stop.Stop.{Stop}
use Rattle.tinyjson_grammar.specs.Characters.{line_feed}
use Rattle.tinyjson_grammar.specs.Tree.{Tree}

-- the bytes before the first line feed, and those after it
abbrev pub first_line : List ℕ → List ℕ
first_line bytes = take (prefix_len is_in_line bytes) bytes

abbrev pub later_lines : List ℕ → List ℕ
later_lines bytes = drop (prefix_len is_in_line bytes + 1) bytes

-- the first lines have these trees, and the rest of the bytes follows them
abbrev pub AreFirst : Option ℕ → List ℕ → List Tree → List ℕ → Type 0
AreFirst limit bytes [] rest = bytes ≡ rest
AreFirst limit bytes (t ∷ ts) rest = (bytes ≢ []) × IsTextOf limit (first_line bytes) t × AreFirst limit (later_lines bytes) ts rest

-- the lines have these trees
abbrev pub AreLines : Option ℕ → List ℕ → List Tree → Type 0
AreLines limit bytes ts = AreFirst limit bytes ts []

-- each normal text, with a line feed after it
abbrev pub lines_text : List Tree → List ℕ
lines_text [] = []
lines_text (t ∷ ts) = (encode_utf8_all (compact t) ++ line_feed ∷ []) ++ lines_text ts

-- A call stops at a line; its place has the line's index, from 0.
pub record StopsAtLine (limit : Option ℕ) (bytes : List ℕ) (status : ℕ) (place : TinyjsonPlace) : Type 0 where
  pub trees : List Tree
  pub rest : List ℕ
  pub before : AreFirst limit bytes trees rest
  pub more : rest ≢ []
  pub stops : Stops limit (first_line rest) (length trees) status place

-- The same, for a private contract: the line's index, and why.
pub record IsStoppedAt (limit : Option ℕ) (bytes : List ℕ) (number : ℕ) (stop : Stop) : Type 0 where
  pub trees : List Tree
  pub rest : List ℕ
  pub before : AreFirst limit bytes trees rest
  pub more : rest ≢ []
  pub counted : number ≡ length trees
  pub stopped : IsStopped limit (first_line rest) stop
