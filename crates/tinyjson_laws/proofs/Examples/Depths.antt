-- Depth: how many containers are open at once, keys that are containers among them, and limits on it.
use Rattle.std.proofs.Common.{◌≡◌, [], ◌∷◌, None, Some, refl, arith}
use Rattle.std.specs.Prelude.{codes}
use lib.Utf8.{encode}
use Rattle.tinyjson_grammar.specs.Grammar.{IsText, IsLoose}
use Rattle.tinyjson_grammar.specs.Machine.{run, step, end}
use Rattle.tinyjson_grammar.specs.Refusal.{IsRefusal}
use Rattle.tinyjson_grammar.specs.Syntax.{Syntax, null, empty_array, array, object, last_element, element, last_pair, text, depth, IsWithin}
use Rattle.tinyjson_grammar.specs.declared.kind.JsonKind.TheVariants as kind
use Rattle.tinyjson_grammar.specs.declared.error.JsonParseErrorKind.TheVariants as error
use Rattle.tinyjson_number.specs.Numeral.{power_fits, value}
use Rattle.tinyjson_laws.proofs.Examples.Reading as trees
use Rattle.tinyjson_laws.proofs.Examples.Reading.{text_of, refusal_of, whole}

-- ---- with a limit

within_a_limit :
    IsText (Some 0) (codes "7") (whole (codes "7"))
    × IsText (Some 1) (codes "[1]") (trees.array (whole (codes "1") ∷ []))
    × IsText (Some 2) (codes "[[],[]]") (trees.array (trees.array [] ∷ trees.array [] ∷ []))
unfolding run step end value power_fits
within_a_limit = (text_of refl refl, text_of refl refl, text_of refl refl)

member_that_is_replaced : IsText (Some 4) (codes "{\"a\":[[[]]],\"a\":1}") (trees.object ((codes "a", whole (codes "1")) ∷ []))
unfolding run step end value power_fits encode
member_that_is_replaced = text_of refl refl

beyond_a_limit :
    IsRefusal (Some 1) (error.TooDeep 91) (codes "[") (codes "[1]]")
    × IsRefusal (Some 0) (error.TooDeep 91) [] (codes "[[1]]")
    × IsRefusal (Some 1) (error.TooDeep 123) (codes "{\"a\":") (codes "{\"b\":1}}")
    × IsRefusal (Some 3) (error.TooDeep 91) (codes "{\"a\":[[") (codes "[]]],\"a\":1}")
    × IsRefusal (Some 1) (error.TooDeep 91) (codes "{") (codes "[]:1}")
    × IsRefusal (Some 2) (error.KeyNotString kind.Array) (codes "{[]") (codes ":1}")
    × IsRefusal (Some 1) (error.TooDeep 91) (codes "[\n ") (codes "[]]")
    × IsRefusal (Some 1) error.UnexpectedEof (codes "[") []
    × IsRefusal (Some 1) (error.InvalidCharacter 93) (codes "[1,") (codes "]")
unfolding run step end value power_fits
beyond_a_limit = (
  refusal_of refl refl,
  refusal_of refl refl,
  refusal_of refl refl,
  refusal_of refl refl,
  refusal_of refl refl,
  refusal_of refl refl,
  refusal_of refl refl,
  refusal_of refl refl,
  refusal_of refl refl,
)

-- ---- keys that are containers, in the loose grammar

-- `{[[]]:null}`
abbrev deep_key : Syntax
deep_key = object (last_pair [] (array (last_element [] (empty_array []) [])) [] [] null [])

deep_key_text : text deep_key ≡ codes "{[[]]:null}"
deep_key_text = refl

deep_key_depth : depth deep_key ≡ 3
deep_key_depth = refl

within_three : IsLoose (Some 3) (codes "{[[]]:null}")
within_three = record {
  before = [];
  value = deep_key;
  after = [];
  white_before = tt;
  spelled = (tt, (tt, tt, tt), tt, tt, tt, tt);
  white_after = tt;
  shallow = omega arith;
  whole = refl;
}

not_within_two : IsWithin (Some 2) (depth deep_key) → ⊥
not_within_two h = omega (arith, h)

no_limit : IsWithin None (depth deep_key)
no_limit = tt

deepest_of_two : depth (array (element [] (empty_array []) [] (last_element [] (array (last_element [] null [])) []))) ≡ 2
deepest_of_two = refl
