-- The bare value is spelled, as deep, as strict, and has the same tree.
use Rattle.std.proofs.Common.{◌≡◌, ◌+◌, max, ◌∷◌, [], refl, ap, ◌∙◌, IsTrue}
use Rattle.std.specs.Int.{Width}
use Rattle.tinyjson_grammar.specs.Tree as tree
use Rattle.tinyjson_grammar.specs.Syntax.{Syntax, Elements, Pairs, null, number, string, array, object, last_element, element, last_pair}
use Rattle.tinyjson_grammar.specs.Syntax.{pair, is_key, tree_of, elements_trees, pairs_members, IsStrictAt, ElementsAreStrictAt}
use Rattle.tinyjson_grammar.specs.Syntax.{PairsAreStrictAt, IsSpelled, AreElements, ArePairs, depth, elements_depth, pairs_depth}
use Rattle.tinyjson_laws.specs.WhiteSpace.{bare_value, bare_elements, bare_pairs}

mutual
  pub bare_spelled : (s : Syntax) → IsSpelled s → IsSpelled (bare_value s)
  bare_spelled (number n) h = h
  bare_spelled (string ps) h = h
  bare_spelled (array es) h = bare_elements_spelled es h
  bare_spelled (object ps) h = bare_pairs_spelled ps h
  bare_spelled _ h = tt

  bare_elements_spelled : (es : Elements) → AreElements es → AreElements (bare_elements es)
  bare_elements_spelled (last_element v s w) h = (tt, bare_spelled s h.1, tt)
  bare_elements_spelled (element v s w es) h = (tt, bare_spelled s h.1, tt, bare_elements_spelled es h.3)

  bare_pairs_spelled : (ps : Pairs) → ArePairs ps → ArePairs (bare_pairs ps)
  bare_pairs_spelled (last_pair a k b c s d) h = (tt, bare_spelled k h.1, tt, tt, bare_spelled s h.4, tt)
  bare_pairs_spelled (pair a k b c s d ps) h = (tt, bare_spelled k h.1, tt, tt, bare_spelled s h.4, tt, bare_pairs_spelled ps h.6)

mutual
  pub bare_depth : (s : Syntax) → depth (bare_value s) ≡ depth s
  bare_depth (array es) = ap (λ n. 1 + n) (bare_elements_depth es)
  bare_depth (object ps) = ap (λ n. 1 + n) (bare_pairs_depth ps)
  bare_depth _ = refl

  bare_elements_depth : (es : Elements) → elements_depth (bare_elements es) ≡ elements_depth es
  bare_elements_depth (last_element v s w) = bare_depth s
  bare_elements_depth (element v s w es) = λ i. max (bare_depth s i) (bare_elements_depth es i)

  bare_pairs_depth : (ps : Pairs) → pairs_depth (bare_pairs ps) ≡ pairs_depth ps
  bare_pairs_depth (last_pair a k b c s d) = λ i. max (bare_depth k i) (bare_depth s i)
  bare_pairs_depth (pair a k b c s d ps) = λ i. max (max (bare_depth k i) (bare_depth s i)) (bare_pairs_depth ps i)

mutual
  pub bare_tree : (s : Syntax) → tree_of (bare_value s) ≡ tree_of s
  bare_tree (array es) = ap (λ z. tree.array (tree.items_of z)) (bare_trees es)
  bare_tree (object ps) = ap tree.object (bare_members ps tree.no_members)
  bare_tree _ = refl

  bare_trees : (es : Elements) → elements_trees (bare_elements es) ≡ elements_trees es
  bare_trees (last_element v s w) = ap (λ z. z ∷ []) (bare_tree s)
  bare_trees (element v s w es) = λ i. bare_tree s i ∷ bare_trees es i

  bare_members : (ps : Pairs) (ms : tree.Members) → pairs_members ms (bare_pairs ps) ≡ pairs_members ms ps
  bare_members (last_pair a k b c s d) ms = λ i. tree.put (tree.key_of (bare_tree k i)) (bare_tree s i) ms
  bare_members (pair a k b c s d ps) ms = ap (λ z. pairs_members z (bare_pairs ps))
      (λ i. tree.put (tree.key_of (bare_tree k i)) (bare_tree s i) ms) ∙ bare_members ps (tree.put (tree.key_of (tree_of k)) (tree_of s) ms)

pub bare_key : (s : Syntax) → is_key (bare_value s) ≡ is_key s
bare_key null = refl
bare_key _ = refl

-- what is strict without white space is so with it, and the reverse: the condition is the same type
mutual
  pub bare_strict : (width : Width) (s : Syntax) → IsStrictAt width (bare_value s) ≡ IsStrictAt width s
  bare_strict width (array es) = bare_elements_strict width es
  bare_strict width (object ps) = bare_pairs_strict width ps
  bare_strict width _ = refl

  bare_elements_strict : (width : Width) (es : Elements) → ElementsAreStrictAt width (bare_elements es) ≡ ElementsAreStrictAt width es
  bare_elements_strict width (last_element v s w) = bare_strict width s
  bare_elements_strict width (element v s w es) = λ i. bare_strict width s i × bare_elements_strict width es i

  bare_pairs_strict : (width : Width) (ps : Pairs) → PairsAreStrictAt width (bare_pairs ps) ≡ PairsAreStrictAt width ps
  bare_pairs_strict width (last_pair a k b c s d) = λ i. IsTrue (bare_key k i) × bare_strict width k i × bare_strict width s i
  bare_pairs_strict width (pair a k b c s d ps) = λ i. IsTrue (bare_key k i) × bare_strict width k i × bare_strict width s i
      × bare_pairs_strict width ps i
