-- What is written of trees: quoted strings, decimals, indents.
use Rattle.std.proofs.Common.{◌≡◌, ℕ, ℤ, true, false, List, [], ◌∷◌, ◌++◌, replicate, pos, negsuc, refl}
use Rattle.std.specs.Prelude.{codes}
use Rattle.tinyjson_grammar.specs.Text.{compact, indented, quoted}
use Rattle.tinyjson_grammar.specs.Tree as tree
use Rattle.tinyjson_grammar.specs.Tree.{Tree}
use Rattle.tinyjson_number.specs.Text.{natural_text, decimal_text}
use Rattle.tinyjson_laws.proofs.Examples.Reading.{decimal, whole, zero, array, object}

-- ---- strings

escapes :
    quoted (8 ∷ 9 ∷ 10 ∷ 12 ∷ 13 ∷ 34 ∷ 92 ∷ 11 ∷ 31 ∷ 127 ∷ 47 ∷ []) ≡
    codes "\"\\b\\t\\n\\f\\r\\\"\\\\\\u000b\\u001f\u{7f}/\""
escapes = refl

-- U+0000, U+0007, U+000E, U+001F, U+0020, U+0080, U+FEFF, U+1F600
other_characters :
    quoted (0 ∷ 7 ∷ 14 ∷ 31 ∷ 32 ∷ 128 ∷ 65279 ∷ 128512 ∷ []) ≡
    codes "\"\\u0000\\u0007\\u000e\\u001f \u{80}\u{feff}😀\""
other_characters = refl

-- ---- decimals

abbrev shown : List ℕ → ℤ → List ℕ
shown ds e = decimal_text (record { negative = false; digits = ds; power = e })

with_and_without_exponent : unfold decimal_text natural_text in
    (shown (codes "12") (pos 307) ≡ codes "12" ++ replicate 307 48)
    × (shown (codes "12") (pos 308) ≡ codes "1.2e309")
    × (shown (codes "5") (negsuc 323) ≡ codes "0." ++ (replicate 323 48 ++ codes "5"))
    × (shown (codes "5") (negsuc 324) ≡ codes "5e-325")
    × (compact (decimal true (codes "25") (pos 400)) ≡ codes "-2.5e401")
unfolding decimal_text natural_text
with_and_without_exponent = (refl, refl, refl, refl, refl)

short_decimals : unfold decimal_text natural_text in
    (compact (decimal true (codes "123") (negsuc 1)) ≡ codes "-1.23")
    × (compact (decimal false (codes "12") (negsuc 3)) ≡ codes "0.0012")
    × (compact (decimal false (codes "5") (negsuc 0)) ≡ codes "0.5")
    × (compact zero ≡ codes "0")
    × (compact (decimal false (codes "12") (pos 2)) ≡ codes "1200")
    × (compact (whole (codes "15")) ≡ codes "15")
unfolding decimal_text natural_text
short_decimals = (refl, refl, refl, refl, refl, refl)

-- ---- indents

abbrev numbers : Tree
numbers = array (whole (codes "1") ∷ whole (codes "2") ∷ whole (codes "3") ∷ [])

indents : unfold decimal_text natural_text in
    (compact numbers ≡ codes "[1,2,3]")
    × (indented numbers (codes "  ") 0 ≡ codes "[\n  1,\n  2,\n  3\n]")
    × (indented numbers (codes "        ") 0 ≡ codes "[\n        1,\n        2,\n        3\n]")
    × (indented (object ((codes "k", numbers) ∷ [])) (codes "\t") 0 ≡ codes "{\n\t\"k\": [\n\t\t1,\n\t\t2,\n\t\t3\n\t]\n}")
    × (indented (array (whole (codes "1") ∷ [])) (codes "--") 0 ≡ codes "[\n--1\n]")
unfolding decimal_text natural_text
indents = (refl, refl, refl, refl, refl)

abbrev empty_inside : Tree
empty_inside = array (object [] ∷ array [] ∷ object ((codes "k", array (tree.null ∷ [])) ∷ []) ∷ [])

empty_indent :
    (indented empty_inside [] 0 ≡ codes "[\n{},\n[],\n{\n\"k\": [\nnull\n]\n}\n]")
    × (indented empty_inside (codes "  ") 0 ≡ codes "[\n  {},\n  [],\n  {\n    \"k\": [\n      null\n    ]\n  }\n]")
    × (indented (array []) (codes "  ") 0 ≡ codes "[]")
    × (indented (object []) (codes "  ") 0 ≡ codes "{}")
empty_indent = (refl, refl, refl, refl)
