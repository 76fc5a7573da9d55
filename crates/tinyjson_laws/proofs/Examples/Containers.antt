-- Arrays and objects (RFC 8259, sections 4 and 5).
use Rattle.std.proofs.Common.{◌≡◌, true, [], ◌∷◌, None, refl}
use Rattle.std.specs.Prelude.{codes}
use lib.Utf8.{encode}
use Rattle.tinyjson_grammar.specs.Grammar.{IsText}
use Rattle.tinyjson_grammar.specs.Machine.{run, step, end}
use Rattle.tinyjson_grammar.specs.Refusal.{IsRefusal}
use Rattle.tinyjson_grammar.specs.Syntax.{Syntax, pair, last_pair, boolean, null, string, plain, pairs_members}
use Rattle.tinyjson_grammar.specs.Tree as tree
use Rattle.tinyjson_grammar.specs.declared.kind.JsonKind.TheVariants as kind
use Rattle.tinyjson_grammar.specs.declared.error.JsonParseErrorKind.TheVariants as error
use Rattle.tinyjson_number.specs.Numeral.{power_fits, value}
use Rattle.tinyjson_laws.proofs.Examples.Reading.{text_of, refusal_of, whole, array, object, members}

empty_containers : IsText None (codes "[{},[],{\"k\":[null]}]")
    (array (object [] ∷ array [] ∷ object ((codes "k", array (tree.null ∷ [])) ∷ []) ∷ []))
unfolding run step end value power_fits
empty_containers = text_of refl refl

members_in_order : IsText None (codes "{\"b\":[1],\"a\":null}")
    (object ((codes "a", tree.null) ∷ (codes "b", array (whole (codes "1") ∷ [])) ∷ []))
unfolding run step end value power_fits encode
members_in_order = text_of refl refl

-- U+FF5E is written with fewer bytes than U+1F600, and stands first
keys_by_their_bytes : IsText None (codes "{\"\\ud83d\\ude00\":1,\"\\uff5e\":2}")
    (object ((0xff5e ∷ [], whole (codes "2")) ∷ (0x1f600 ∷ [], whole (codes "1")) ∷ []))
unfolding run step end value power_fits encode
keys_by_their_bytes = text_of refl refl

containers_read :
    IsText None (codes "{\"a\":1,\"a\":2}") (object ((codes "a", whole (codes "2")) ∷ []))
    × IsText None (codes "{\"\\u0061\":1,\"a\":2}") (object ((codes "a", whole (codes "2")) ∷ []))
    × IsText None (codes "{\"a\":1,\"b\":3,\"a\":[],\"a\":null}") (object ((codes "a", tree.null) ∷ (codes "b", whole (codes "3")) ∷ []))
unfolding run step end value power_fits encode
containers_read = (text_of refl refl, text_of refl refl, text_of refl refl)

empty_key : IsText None (codes "{\"\":1}") (object (([], whole (codes "1")) ∷ []))
unfolding run step end value power_fits
empty_key = text_of refl refl

abbrev key : Syntax
key = string (plain 97 ∷ [])

last_of_equal_keys : unfold encode in
    pairs_members tree.no_members (pair [] key [] [] null [] (last_pair [] key [] [] (boolean true) [])) ≡
    members ((codes "a", tree.boolean true) ∷ [])
unfolding encode
last_of_equal_keys = refl

-- ---- what is none

containers_refused :
    IsRefusal None error.UnexpectedEof [] []
    × IsRefusal None error.UnexpectedEof (codes "[1, 2, 3") []
    × IsRefusal None error.UnexpectedEof (codes "[") []
    × IsRefusal None (error.InvalidCharacter 93) (codes "[1,") (codes "]")
    × IsRefusal None (error.InvalidCharacter 125) (codes "{\"a\":1,") (codes "}")
    × IsRefusal None (error.InvalidCharacter 44) (codes "{") (codes ",")
    × IsRefusal None (error.InvalidCharacter 120) (codes "[\n") (codes "x")
    × IsRefusal None (error.ExpectedEof 50) (codes "1 2") []
    × IsRefusal None (error.ExpectedCommaOrBracket 50) (codes "[1 2") (codes "]")
    × IsRefusal None (error.ExpectedCommaOrBracket 120) (codes "[1 x") []
    × IsRefusal None (error.ExpectedCommaOrBracket 125) (codes "[1}") []
    × IsRefusal None (error.ExpectedCommaOrBrace 93) (codes "{\"a\":1]") []
    × IsRefusal None (error.ExpectedCommaOrBrace 59) (codes "{\"a\":1;") []
    × IsRefusal None (error.ExpectedColon 49) (codes "{\"a\" 1") (codes "}")
    × IsRefusal None (error.ExpectedColon 44) (codes "{\"a\",") []
    × IsRefusal None (error.KeyNotString kind.Number) (codes "{1") (codes ":2}")
    × IsRefusal None (error.KeyNotString kind.Number) (codes "{1") (codes " ")
    × IsRefusal None (error.KeyNotString kind.Null) (codes "{null") (codes ":1}")
    × IsRefusal None (error.KeyNotString kind.Boolean) (codes "{true") (codes ":1}")
    × IsRefusal None (error.KeyNotString kind.Array) (codes "{[1]") (codes ":2}")
    × IsRefusal None (error.KeyNotString kind.Object) (codes "{{}") (codes ":1}")
    × IsRefusal None (error.KeyNotString kind.Number) (codes "{\"a\":1,2") (codes ":3}")
    × IsRefusal None error.LeadingZero (codes "{[01") []
    × IsRefusal None (error.KeyNotString kind.Number) (codes "{1") (codes ":01}")
    × IsRefusal None (error.KeyNotString kind.Array) (codes "{[[]]") []
unfolding run step end value power_fits
containers_refused = (
  refusal_of refl refl,
  refusal_of refl refl,
  refusal_of refl refl,
  refusal_of refl refl,
  refusal_of refl refl,
  refusal_of refl refl,
  refusal_of refl refl,
  refusal_of refl refl,
  refusal_of refl refl,
  refusal_of refl refl,
  refusal_of refl refl,
  refusal_of refl refl,
  refusal_of refl refl,
  refusal_of refl refl,
  refusal_of refl refl,
  refusal_of refl refl,
  refusal_of refl refl,
  refusal_of refl refl,
  refusal_of refl refl,
  refusal_of refl refl,
  refusal_of refl refl,
  refusal_of refl refl,
  refusal_of refl refl,
  refusal_of refl refl,
  refusal_of refl refl,
)
