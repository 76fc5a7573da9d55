-- Strings: escapes, surrogate pairs, and characters that stand for themselves (RFC 8259, section 7).
use Rattle.std.proofs.Common.{◌≡◌, true, false, [], ◌∷◌, None, refl}
use Rattle.std.specs.Prelude.{codes}
use Rattle.tinyjson_grammar.specs.Characters.{is_hex, short_escape, pair_of, is_high, is_low, decode, paired}
use Rattle.tinyjson_grammar.specs.Grammar.{IsText}
use Rattle.tinyjson_grammar.specs.Machine.{run, step, end}
use Rattle.tinyjson_grammar.specs.Refusal.{IsRefusal}
use Rattle.tinyjson_grammar.specs.Tree.{string}
use Rattle.tinyjson_grammar.specs.declared.error.JsonParseErrorKind.TheVariants as error
use Rattle.tinyjson_number.specs.Numeral.{power_fits, value}
use Rattle.tinyjson_laws.proofs.Examples.Reading.{text_of, refusal_of}

-- ---- short escapes

short_escapes :
    IsText None (codes "\"\\\"\"") (string (0x22 ∷ []))
    × IsText None (codes "\"\\\\\"") (string (0x5c ∷ []))
    × IsText None (codes "\"\\/\"") (string (0x2f ∷ []))
    × IsText None (codes "\"\\b\"") (string (0x08 ∷ []))
    × IsText None (codes "\"\\f\"") (string (0x0c ∷ []))
    × IsText None (codes "\"\\n\"") (string (0x0a ∷ []))
    × IsText None (codes "\"\\r\"") (string (0x0d ∷ []))
    × IsText None (codes "\"\\t\"") (string (0x09 ∷ []))
unfolding run step end value power_fits
short_escapes = (
  text_of refl refl,
  text_of refl refl,
  text_of refl refl,
  text_of refl refl,
  text_of refl refl,
  text_of refl refl,
  text_of refl refl,
  text_of refl refl,
)

no_other_escape :
    (short_escape 0x61 ≡ None)
    × (short_escape 0x75 ≡ None)
    × (short_escape 0x42 ≡ None)
    × (short_escape 0x27 ≡ None)
no_other_escape = (refl, refl, refl, refl)

no_short_escapes :
    IsRefusal None (error.InvalidEscape 118) (codes "\"\\v") (codes "\"")
    × IsRefusal None (error.InvalidEscape 85) (codes "\"\\U") (codes "0041\"")
    × IsRefusal None (error.InvalidEscape 10) (codes "\"\\\n") (codes "\"")
unfolding run step end value power_fits
no_short_escapes = (refusal_of refl refl, refusal_of refl refl, refusal_of refl refl)

-- ---- escapes of four hexadecimal digits

codes_read :
    IsText None (codes "\"\\u0000\"") (string (0 ∷ []))
    × IsText None (codes "\"\\uaBcF\\u0123\\u4567\\u89ab\\ucdef\\uABCD\\uEF00\"") (string (0xabcf ∷ 0x0123 ∷ 0x4567 ∷ 0x89ab ∷ 0xcdef ∷
    0xabcd ∷ 0xef00 ∷ []))
    × IsText None (codes "\"\\u0001\\uffff\"") (string (0x0001 ∷ 0xffff ∷ []))
unfolding run step end value power_fits
codes_read = (text_of refl refl, text_of refl refl, text_of refl refl)

-- `/`, `:`, `@`, `G`, the grave accent, `g`
no_other_digit :
    (is_hex 47 ≡ false)
    × (is_hex 58 ≡ false)
    × (is_hex 64 ≡ false)
    × (is_hex 71 ≡ false)
    × (is_hex 96 ≡ false)
    × (is_hex 103 ≡ false)
no_other_digit = (refl, refl, refl, refl, refl, refl)

codes_refused :
    IsRefusal None (error.InvalidHexDigit 103) (codes "\"\\u00g") (codes "0\"")
    × IsRefusal None (error.InvalidHexDigit 32) (codes "\"\\u ") (codes "0041\"")
    × IsRefusal None (error.InvalidHexDigit 34) (codes "\"\\ud83d\\ude0\"") []
unfolding run step end value power_fits
codes_refused = (refusal_of refl refl, refusal_of refl refl, refusal_of refl refl)

-- ---- surrogate pairs

first_and_last_pair : (pair_of 0xd800 0xdc00 ≡ 0x10000) × (pair_of 0xdbff 0xdfff ≡ 0x10ffff) × (pair_of 0xd83d 0xde00 ≡ 0x1f600)
first_and_last_pair = (refl, refl, refl)

high_surrogates : (is_high 0xd7ff ≡ false) × (is_high 0xd800 ≡ true) × (is_high 0xdbff ≡ true) × (is_high 0xdc00 ≡ false)
high_surrogates = (refl, refl, refl, refl)

low_surrogates : (is_low 0xdbff ≡ false) × (is_low 0xdc00 ≡ true) × (is_low 0xdfff ≡ true) × (is_low 0xe000 ≡ false)
low_surrogates = (refl, refl, refl, refl)

pairs_of_neighbours : decode (0x61 ∷ 0xd83d ∷ 0xde00 ∷ 0x62 ∷ []) ≡ 0x61 ∷ 0x1f600 ∷ 0x62 ∷ []
pairs_of_neighbours = refl

no_pairs :
    (paired (0xd83d ∷ []) ≡ false)
    × (paired (0xde00 ∷ 0xd83d ∷ []) ≡ false)
    × (paired (0xd83d ∷ 0x61 ∷ 0xde00 ∷ []) ≡ false)
    × (paired (0xd83d ∷ 0xd83d ∷ 0xde00 ∷ []) ≡ false)
no_pairs = (refl, refl, refl, refl)

pairs_read :
    IsText None (codes "\"\\ud800\\udc00\"") (string (0x10000 ∷ []))
    × IsText None (codes "\"\\udbff\\udfff\"") (string (0x10ffff ∷ []))
    × IsText None (codes "\"\\uD83D\\uDe00\"") (string (0x1f600 ∷ []))
    × IsText None (codes "\"\\ud83d\\ude00\\ud83d\\ude01\"") (string (0x1f600 ∷ 0x1f601 ∷ []))
    × IsText None (codes "\"\\ud7ff\\ue000\"") (string (0xd7ff ∷ 0xe000 ∷ []))
unfolding run step end value power_fits
pairs_read = (text_of refl refl, text_of refl refl, text_of refl refl, text_of refl refl, text_of refl refl)

surrogates_refused :
    IsRefusal None error.InvalidUtf16 (codes "\"\\ude00\\ud83d\"") []
    × IsRefusal None error.InvalidUtf16 (codes "\"\\ud800\"") []
    × IsRefusal None error.InvalidUtf16 (codes "\"\\ud800x") []
    × IsRefusal None error.InvalidUtf16 (codes "\"\\ud800\\n") (codes "\"")
    × IsRefusal None error.InvalidUtf16 (codes "\"\\udc00\\u0041\"") []
    × IsRefusal None (error.InvalidEscape 113) (codes "\"\\udc00\\q") []
    × IsRefusal None (error.InvalidEscape 113) (codes "\"\\ud800\\q") (codes "\"")
unfolding run step end value power_fits
surrogates_refused = (
  refusal_of refl refl,
  refusal_of refl refl,
  refusal_of refl refl,
  refusal_of refl refl,
  refusal_of refl refl,
  refusal_of refl refl,
  refusal_of refl refl,
)

-- ---- characters that stand for themselves

-- U+0020, U+007F, U+FDD0, U+FFFF, U+10FFFF, and U+FEFF within a string
plain_characters : IsText None (34 ∷ 0x20 ∷ 0x7f ∷ 0xfdd0 ∷ 0xffff ∷ 0x10ffff ∷ 0xfeff ∷ 34 ∷ [])
    (string (0x20 ∷ 0x7f ∷ 0xfdd0 ∷ 0xffff ∷ 0x10ffff ∷ 0xfeff ∷ []))
unfolding run step end value power_fits
plain_characters = text_of refl refl

as_they_are :
    IsText None (codes "\"/\"") (string (0x2f ∷ []))
    × IsText None (codes "\"\"") (string [])
unfolding run step end value power_fits
as_they_are = (text_of refl refl, text_of refl refl)

not_as_they_are :
    IsRefusal None (error.ControlCharacter 0) (34 ∷ 0 ∷ []) (34 ∷ [])
    × IsRefusal None (error.ControlCharacter 9) (34 ∷ 9 ∷ []) (34 ∷ [])
    × IsRefusal None (error.ControlCharacter 10) (34 ∷ 10 ∷ []) (34 ∷ [])
    × IsRefusal None (error.ControlCharacter 31) (34 ∷ 31 ∷ []) (34 ∷ [])
    × IsRefusal None (error.ControlCharacter 1) (34 ∷ 116 ∷ 1 ∷ []) []
    × IsRefusal None error.UnexpectedEof (codes "\"abc") []
    × IsRefusal None error.UnexpectedEof (codes "\"\\u00") []
unfolding run step end value power_fits
not_as_they_are = (
  refusal_of refl refl,
  refusal_of refl refl,
  refusal_of refl refl,
  refusal_of refl refl,
  refusal_of refl refl,
  refusal_of refl refl,
  refusal_of refl refl,
)
