-- Lines and columns.
use Rattle.std.proofs.Common.{◌≡◌, [], refl}
use Rattle.std.specs.Prelude.{codes}
use Rattle.tinyjson_grammar.specs.Position.{advance, origin, position_at}

-- a carriage return and a tab are characters like others; a character is one column, whatever its code
after_a_text : unfold advance in
    (advance origin [] ≡ position_at 1 0)
    × (advance origin (codes "[1, 2, 3") ≡ position_at 1 8)
    × (advance origin (codes "a\nbc\n d") ≡ position_at 3 2)
    × (advance origin (codes "tr\n") ≡ position_at 2 0)
    × (advance origin (codes "\r\t\r") ≡ position_at 1 3)
    × (advance origin (codes "\"❤😀\"") ≡ position_at 1 4)
unfolding advance
after_a_text = (refl, refl, refl, refl, refl, refl)

-- the last line and the last column stay
from_a_later_place : unfold advance in
    (advance (position_at 3 4) (codes "ab") ≡ position_at 3 6)
    × (advance (position_at 3 4) (codes "ab\nc") ≡ position_at 4 1)
    × (advance (position_at 7 18446744073709551614) (codes "abc") ≡ position_at 7 18446744073709551615)
    × (advance (position_at 18446744073709551614 5) (codes "\n\n\na") ≡ position_at 18446744073709551615 1)
unfolding advance
from_a_later_place = (refl, refl, refl, refl)
