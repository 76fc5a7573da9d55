-- What fits 32 bits fits 64.
use Rattle.std.proofs.Common.{ℕ, List, Option}
use Rattle.std.specs.Int.{w32, w64}
use Rattle.tinyjson_number.specs.Numeral.{value}
use Rattle.tinyjson_number.proofs.Callers.{wider_fits}
use Rattle.tinyjson_grammar.specs.Syntax.{Syntax, Elements, Pairs, number, string, array, object, last_element, element, last_pair, pair}
use Rattle.tinyjson_grammar.specs.Syntax.{IsStrictAt, ElementsAreStrictAt, PairsAreStrictAt}
use Rattle.tinyjson_grammar.specs.Tree.{Tree}
use Rattle.tinyjson_grammar.specs.Grammar.{IsTextAt}

mutual
  wider_value : (s : Syntax) → IsStrictAt w32 s → IsStrictAt w64 s
  wider_value (number n) h = (h.0, wider_fits (value n).power h.1)
  wider_value (string ps) h = h
  wider_value (array es) h = wider_elements es h
  wider_value (object ps) h = wider_pairs ps h
  wider_value _ h = tt

  wider_elements : (es : Elements) → ElementsAreStrictAt w32 es → ElementsAreStrictAt w64 es
  wider_elements (last_element v s w) h = wider_value s h
  wider_elements (element v s w es) h = (wider_value s h.0, wider_elements es h.1)

  wider_pairs : (ps : Pairs) → PairsAreStrictAt w32 ps → PairsAreStrictAt w64 ps
  wider_pairs (last_pair a k b c s d) h = (h.0, wider_value k h.1, wider_value s h.2)
  wider_pairs (pair a k b c s d ps) h = (h.0, wider_value k h.1, wider_value s h.2, wider_pairs ps h.3)

pub wider_text : (limit : Option ℕ) (xs : List ℕ) (t : Tree) → IsTextAt w32 limit xs t → IsTextAt w64 limit xs t
wider_text limit xs t h = record { loose = h.loose; strict = wider_value h.loose.value h.strict; tree = h.tree }
