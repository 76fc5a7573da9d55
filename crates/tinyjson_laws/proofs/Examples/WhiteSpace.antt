-- White space: space, tab, line feed and carriage return (RFC 8259, section 2), and no other character.
use Rattle.std.proofs.Common.{◌≡◌, true, false, [], ◌∷◌, ◌++◌, None, refl}
use Rattle.std.specs.Prelude.{codes}
use Rattle.tinyjson_grammar.specs.Characters.{is_white}
use Rattle.tinyjson_grammar.specs.Grammar.{IsText}
use Rattle.tinyjson_grammar.specs.Machine.{run, step, end}
use Rattle.tinyjson_grammar.specs.Refusal.{IsRefusal}
use Rattle.tinyjson_grammar.specs.Tree.{null}
use Rattle.tinyjson_grammar.specs.declared.error.JsonParseErrorKind.TheVariants as error
use Rattle.tinyjson_number.specs.Numeral.{power_fits, value}
use Rattle.tinyjson_laws.specs.WhiteSpace.{without_white}
use Rattle.tinyjson_laws.proofs.Examples.Reading.{text_of, refusal_of, whole, zero, array}

four_white : (is_white 0x20 ≡ true) × (is_white 0x09 ≡ true) × (is_white 0x0a ≡ true) × (is_white 0x0d ≡ true)
four_white = (refl, refl, refl, refl)

-- U+000B, U+000C, U+0085, U+00A0, U+FEFF
no_other_white :
    (is_white 0x0b ≡ false)
    × (is_white 0x0c ≡ false)
    × (is_white 0x85 ≡ false)
    × (is_white 0xa0 ≡ false)
    × (is_white 0xfeff ≡ false)
no_other_white = (refl, refl, refl, refl, refl)

white_around :
    IsText None (codes " [ 1 , 2 ] ") (array (whole (codes "1") ∷ whole (codes "2") ∷ []))
    × IsText None (codes "\t[\t1\t,\t2\t]\t") (array (whole (codes "1") ∷ whole (codes "2") ∷ []))
    × IsText None (codes "\n[\n1\n,\n2\n]\n") (array (whole (codes "1") ∷ whole (codes "2") ∷ []))
    × IsText None (codes "\r[\r1\r,\r2\r]\r") (array (whole (codes "1") ∷ whole (codes "2") ∷ []))
    × IsText None (codes " \t\n\r0\r\n\t ") zero
    × IsText None (codes "null") null
unfolding run step end value power_fits
white_around = (text_of refl refl, text_of refl refl, text_of refl refl, text_of refl refl, text_of refl refl, text_of refl refl)

no_white_space :
    IsRefusal None (error.InvalidCharacter 0x0b) [] (0x0b ∷ codes "0")
    × IsRefusal None (error.InvalidCharacter 0x0c) [] (0x0c ∷ codes "0")
    × IsRefusal None (error.InvalidCharacter 0x85) [] (0x85 ∷ codes "0")
    × IsRefusal None (error.InvalidCharacter 0xa0) [] (0xa0 ∷ codes "0")
    × IsRefusal None (error.InvalidCharacter 0xfeff) [] (0xfeff ∷ codes "1")
    × IsRefusal None (error.ExpectedCommaOrBracket 0x0c) (codes "[1" ++ 0x0c ∷ []) (codes "]")
    × IsRefusal None (error.ExpectedEof 0xa0) (codes "0" ++ 0xa0 ∷ []) []
unfolding run step end value power_fits
no_white_space = (
  refusal_of refl refl,
  refusal_of refl refl,
  refusal_of refl refl,
  refusal_of refl refl,
  refusal_of refl refl,
  refusal_of refl refl,
  refusal_of refl refl,
)

spaces_in_strings_stay : without_white (codes " [ 1 ,\n\t\" a\\\" \" ]") ≡ codes "[1,\" a\\\" \"]"
spaces_in_strings_stay = refl
