-- Compact or indented text.
use Rattle.std.proofs.Common.{◌≡◌, ℕ, Bool, true, false, List, [], ◌∷◌, ◌++◌, Option, Result, codes, encode_utf8_all}
use Rattle.std.specs.declared.io.Error.{Error}
use Rattle.tinyjson.specs.Characters.{line_feed}
use Rattle.tinyjson.specs.Text.{indented}
use Rattle.tinyjson.specs.Tree.{Tree}
use Rattle.tinyjson.specs.Written.{WritesPrefix}
use Rattle.tinyjson_cli.specs.Layout.{laid_out}
use Rattle.tinyjson_lines.specs.Line.{line_of}

module _ (t : Tree) (old new : Option (List ℕ)) (r : Result (Unit {0}) Error) where
  pub is_compact : (b : Bool) → b ≡ false → WritesPrefix old new (line_of t) r → WritesPrefix old new (laid_out b t) r
  is_compact false e w = w
  is_compact true e w = cc

  pub is_indented : (b : Bool) → b ≡ true → WritesPrefix old new (encode_utf8_all (indented t (codes "  ") 0) ++ line_feed ∷ []) r
      → WritesPrefix old new (laid_out b t) r
  is_indented true e w = w
  is_indented false e w = cc
