-- What contracts see of a parsed text: its tree.
use Rattle.std.specs.Prelude.{◌≡◌, ℕ, List, None, encode_utf8_all}
use Rattle.tinyjson.specs.Grammar.{IsText}
use Rattle.tinyjson.specs.Soundness as sound
use Rattle.tinyjson.specs.Text.{compact}
use Rattle.tinyjson.specs.Tree.{Tree}
use Rattle.tinyjson_document.specs.Holding as nodes
use Rattle.tinyjson_normal.specs.declared.normal.Content.{Content}
use Rattle.tinyjson_normal.specs.declared.normal.Content.TheVariants as content
use Rattle.tinyjson_normal.specs.declared.normal.NormalText.{NormalText}

-- the content is that of this tree, which a value may have
abbrev pub IsKept : Content → Tree → Type 0
IsKept (content.Text v) t = (v.items ≡ encode_utf8_all (compact t)) × sound.IsTree t
IsKept (content.Arena a) t = nodes.IsTree a t

-- the text that was read has this tree
abbrev pub HasTree : NormalText → Tree → Type 0
HasTree n t = IsKept n.content t

-- the text is the compact text of its own tree
abbrev pub IsNormal : List ℕ → Type 0
IsNormal xs = (t : Tree) × IsText None xs t × (xs ≡ compact t)
