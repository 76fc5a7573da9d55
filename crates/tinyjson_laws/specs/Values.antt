-- Laws of values.
use Rattle.std.specs.Prelude.{◌≡◌, ◌↔◌, IsTrue}
use Rattle.tinyjson.specs.Equality.{same_tree}
use Rattle.tinyjson_grammar.specs.Soundness.{IsTree}
use Rattle.tinyjson_grammar.specs.Text.{compact}
use Rattle.tinyjson.specs.View.{view}
use Rattle.tinyjson.specs.declared.value.JsonValue.{JsonValue}

-- the tree of a value is sound
abbrev pub ValuesAreSound : Type 0
ValuesAreSound = (v : JsonValue) → IsTree (view v)

-- two values are equal (`==`) exactly if their trees are one
abbrev pub EqualTrees : Type 0
EqualTrees = (v w : JsonValue) → IsTrue (same_tree v w) ↔ (view v ≡ view w)

-- and exactly if their compact texts are one
abbrev pub EqualTexts : Type 0
EqualTexts = (v w : JsonValue) → IsTrue (same_tree v w) ↔ (compact (view v) ≡ compact (view w))
