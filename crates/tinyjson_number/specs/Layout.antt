-- The text of a number in parts.
use Rattle.std.specs.Prelude.{ℕ, List, [], ◌∷◌, ◌++◌, Option, None, Some, ℤ}
use Rattle.tinyjson_number.specs.Text.{integer_text}
use Rattle.tinyjson_number.specs.declared.text.Layout.{Layout}
use Rattle.tinyjson_number.specs.Characters.{letter_e}

-- what follows the digits
abbrev pub power_text : Option ℤ → List ℕ
power_text None = []
power_text (Some z) = letter_e ∷ integer_text z

abbrev pub layout_text : Layout → List ℕ
layout_text l = l.sign.now ++ (l.front.now ++ (l.middle.now ++ (l.back.now ++ power_text l.exponent)))
