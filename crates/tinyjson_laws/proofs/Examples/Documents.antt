-- Whole documents with their trees, and what is written of them.
use Rattle.std.proofs.Common.{◌≡◌, ℕ, true, false, List, [], ◌∷◌, ◌++◌, None, pos, negsuc, refl}
use Rattle.std.specs.Prelude.{codes}
use lib.Utf8.{encode}
use Rattle.tinyjson_grammar.specs.Grammar.{IsText}
use Rattle.tinyjson_grammar.specs.Machine.{run, step, end}
use Rattle.tinyjson_grammar.specs.Soundness.{IsTree}
use Rattle.tinyjson_grammar.specs.Tree.{tree_depth, Tree}
use Rattle.tinyjson_grammar.specs.Text.{compact, indented}
use Rattle.tinyjson_grammar.specs.Tree as tree
use Rattle.tinyjson_number.specs.Numeral.{power_fits, value}
use Rattle.tinyjson_number.specs.Text.{natural_text, decimal_text}
use Rattle.tinyjson_laws.proofs.Examples.Reading.{text_of, lines, decimal, whole, array, object}

-- ---- the examples of RFC 8259, section 13

-- an object
abbrev image_text : List ℕ
image_text =
    lines
    (codes "{"
    ∷ codes "  \"Image\": {"
    ∷ codes "      \"Width\":  800,"
    ∷ codes "      \"Height\": 600,"
    ∷ codes "      \"Title\":  \"View from 15th Floor\","
    ∷ codes "      \"Thumbnail\": {"
    ∷ codes "          \"Url\":    \"http://www.example.com/image/481989943\","
    ∷ codes "          \"Height\": 125,"
    ∷ codes "          \"Width\":  100"
    ∷ codes "      },"
    ∷ codes "      \"Animated\" : false,"
    ∷ codes "      \"IDs\": [116, 943, 234, 38793]"
    ∷ codes "    }"
    ∷ codes "}"
    ∷ [])

abbrev thumbnail : Tree
thumbnail =
    object
    ((codes "Height", whole (codes "125"))
    ∷ (codes "Url", tree.string (codes "http://www.example.com/image/481989943"))
    ∷ (codes "Width", decimal false (codes "1") (pos 2))
    ∷ [])

abbrev image : Tree
image =
    object
    ((
      codes "Image",
      object
          ((codes "Animated", tree.boolean false)
          ∷ (codes "Height", decimal false (codes "6") (pos 2))
          ∷ (codes "IDs", array (whole (codes "116") ∷ whole (codes "943") ∷ whole (codes "234") ∷ whole (codes "38793") ∷ []))
          ∷ (codes "Thumbnail", thumbnail)
          ∷ (codes "Title", tree.string (codes "View from 15th Floor"))
          ∷ (codes "Width", decimal false (codes "8") (pos 2))
          ∷ []),
    )
    ∷ [])

image_read : IsText None image_text image
unfolding run step end value power_fits encode
image_read = text_of refl refl

image_written : unfold decimal_text natural_text in
    compact image ≡ codes "{\"Image\":{\"Animated\":false,\"Height\":600,\"IDs\":[116,943,234,38793],\"Thumbnail\":{\"Height\":12"
    ++ (codes "5,\"Url\":\"http://www.example.com/image/481989943\",\"Width\":100},\"Title\":\"View from 15th Floo"
    ++ codes "r\",\"Width\":800}}")
unfolding decimal_text natural_text
image_written = refl

-- an array of two objects
abbrev places_text : List ℕ
places_text =
    lines
    (codes "["
    ∷ codes "  {"
    ∷ codes "     \"precision\": \"zip\","
    ∷ codes "     \"Latitude\":  37.7668,"
    ∷ codes "     \"Longitude\": -122.3959,"
    ∷ codes "     \"Address\":   \"\","
    ∷ codes "     \"City\":      \"SAN FRANCISCO\","
    ∷ codes "     \"State\":     \"CA\","
    ∷ codes "     \"Zip\":       \"94107\","
    ∷ codes "     \"Country\":   \"US\""
    ∷ codes "  },"
    ∷ codes "  {"
    ∷ codes "     \"precision\": \"zip\","
    ∷ codes "     \"Latitude\":  37.371991,"
    ∷ codes "     \"Longitude\": -122.026020,"
    ∷ codes "     \"Address\":   \"\","
    ∷ codes "     \"City\":      \"SUNNYVALE\","
    ∷ codes "     \"State\":     \"CA\","
    ∷ codes "     \"Zip\":       \"94085\","
    ∷ codes "     \"Country\":   \"US\""
    ∷ codes "  }"
    ∷ codes "]"
    ∷ [])

abbrev san_francisco : Tree
san_francisco =
    object
    ((codes "Address", tree.string [])
    ∷ (codes "City", tree.string (codes "SAN FRANCISCO"))
    ∷ (codes "Country", tree.string (codes "US"))
    ∷ (codes "Latitude", decimal false (codes "377668") (negsuc 3))
    ∷ (codes "Longitude", decimal true (codes "1223959") (negsuc 3))
    ∷ (codes "State", tree.string (codes "CA"))
    ∷ (codes "Zip", tree.string (codes "94107"))
    ∷ (codes "precision", tree.string (codes "zip"))
    ∷ [])

abbrev sunnyvale : Tree
sunnyvale =
    object
    ((codes "Address", tree.string [])
    ∷ (codes "City", tree.string (codes "SUNNYVALE"))
    ∷ (codes "Country", tree.string (codes "US"))
    ∷ (codes "Latitude", decimal false (codes "37371991") (negsuc 5))
    ∷ (codes "Longitude", decimal true (codes "12202602") (negsuc 4))
    ∷ (codes "State", tree.string (codes "CA"))
    ∷ (codes "Zip", tree.string (codes "94085"))
    ∷ (codes "precision", tree.string (codes "zip"))
    ∷ [])

abbrev places : Tree
places = array (san_francisco ∷ sunnyvale ∷ [])

places_read : IsText None places_text places
unfolding run step end value power_fits encode
places_read = text_of refl refl

places_written : unfold decimal_text natural_text in
    compact places ≡ codes "[{\"Address\":\"\",\"City\":\"SAN FRANCISCO\",\"Country\":\"US\",\"Latitude\":37.7668,\"Longitude\":-122.3"
    ++ (codes "959,\"State\":\"CA\",\"Zip\":\"94107\",\"precision\":\"zip\"},{\"Address\":\"\",\"City\":\"SUNNYVALE\",\"Countr"
    ++ (codes "y\":\"US\",\"Latitude\":37.371991,\"Longitude\":-122.02602,\"State\":\"CA\",\"Zip\":\"94085\",\"precision\""
    ++ codes ":\"zip\"}]"))
unfolding decimal_text natural_text
places_written = refl

-- three texts that are a value alone
small_texts :
    IsText None (codes "\"Hello world!\"") (tree.string (codes "Hello world!"))
    × IsText None (codes "42") (whole (codes "42"))
    × IsText None (codes "true") (tree.boolean true)
unfolding run step end value power_fits
small_texts = (text_of refl refl, text_of refl refl, text_of refl refl)

-- ---- a document with each kind of value

abbrev nested : Tree
nested = object ((codes "blah", tree.boolean false) ∷ (codes "blahblah", decimal false (codes "314") (negsuc 1)) ∷ [])

abbrev document : Tree
document =
    object
    ((codes "arr", array (whole (codes "1") ∷ tree.null ∷ tree.string (codes "test") ∷ []))
    ∷ (codes "bool", tree.boolean true)
    ∷ (codes "nested", nested)
    ∷ (codes "unicode", tree.string (10084 ∷ []))
    ∷ [])

-- as the README of the original crate has it
abbrev document_text : List ℕ
document_text =
    lines
    (codes ""
    ∷ codes "{"
    ∷ codes "    \"bool\": true,"
    ∷ codes "    \"arr\": [1, null, \"test\"],"
    ∷ codes "    \"nested\": {"
    ∷ codes "        \"blah\": false,"
    ∷ codes "        \"blahblah\": 3.14"
    ∷ codes "    },"
    ∷ codes "    \"unicode\": \"\\u2764\""
    ∷ codes "}"
    ∷ [])

document_read : IsText None document_text document
unfolding run step end value power_fits encode
document_read = text_of refl refl

-- with equal keys, in another order, and with other spellings
abbrev free_text : List ℕ
free_text =
    lines
    (codes ""
    ∷ codes "{"
    ∷ codes "    \"unicode\": \"\\u2764\", \"bool\": 1, \"bool\" : true,"
    ∷ codes "\t\"arr\": [10e-1, null, \"t\\u0065st\"],"
    ∷ codes "    \"nested\": {\"blahblah\": 0.314E+1, \"blah\": false}"
    ∷ codes "}"
    ∷ [])

spelled_freely : IsText None free_text document
unfolding run step end value power_fits encode
spelled_freely = text_of refl refl

document_compact : unfold decimal_text natural_text in
    compact document ≡ codes "{\"arr\":[1,null,\"test\"],\"bool\":true,\"nested\":{\"blah\":false,\"blahblah\":3"
    ++ codes ".14},\"unicode\":\"❤\"}"
unfolding decimal_text natural_text
document_compact = refl

-- without a line feed after the last brace
document_indented : unfold decimal_text natural_text in
    indented document (codes "  ") 0 ++ codes "\n" ≡
    lines
    (codes "{"
    ∷ codes "  \"arr\": ["
    ∷ codes "    1,"
    ∷ codes "    null,"
    ∷ codes "    \"test\""
    ∷ codes "  ],"
    ∷ codes "  \"bool\": true,"
    ∷ codes "  \"nested\": {"
    ∷ codes "    \"blah\": false,"
    ∷ codes "    \"blahblah\": 3.14"
    ∷ codes "  },"
    ∷ codes "  \"unicode\": \"❤\""
    ∷ codes "}"
    ∷ [])
unfolding decimal_text natural_text
document_indented = refl

nested_sound : unfold power_fits encode in IsTree nested
unfolding power_fits encode
nested_sound = ((refl, tt, (refl, refl, tt)), (refl, (tt, tt)))

document_sound : unfold power_fits encode in IsTree document
unfolding power_fits encode
document_sound = (
  (refl, (refl, (tt, (refl, tt))), (refl, tt, (refl, nested_sound, (refl, refl, tt)))),
  (refl, (refl, (refl, (tt, tt)))),
)

document_depth : tree_depth document ≡ 2
document_depth = refl
