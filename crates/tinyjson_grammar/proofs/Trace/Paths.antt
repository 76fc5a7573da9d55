-- What was read up to the place of a value, and the value round it.
use Rattle.std.proofs.Common.{suc, ◌≡◌, ℕ, ◌+◌, ◌≤◌, max, true, false, List, [], ◌∷◌, ◌++◌, Option, Some, None, refl, ap, append_assoc}
use Rattle.std.proofs.Common.{append-nil, arith, subst, ◌⊎◌}
use Rattle.std.proofs.lemmas.Bool.{false≢true, cases_Bool}
use Rattle.tinyjson_grammar.specs.Tree.{key_of, Tree, Members, no_members, put}
use Rattle.tinyjson_grammar.specs.Syntax.{Syntax, array, object, Elements, last_element, element, Pairs, last_pair, pair, text}
use Rattle.tinyjson_grammar.specs.Syntax.{elements_text, pairs_text, AreWhite, IsSpelled, AreElements, ArePairs, is_key, IsStrict}
use Rattle.tinyjson_grammar.specs.Syntax.{ElementsAreStrict, PairsAreStrict, depth, elements_depth, pairs_depth, IsWithin, tree_of}
use Rattle.tinyjson_grammar.specs.Syntax.{elements_trees, pairs_members}
use Rattle.tinyjson_grammar.specs.Grammar.{IsLoose}
use Rattle.tinyjson_grammar.specs.Prefix.{Element, Pair, element_text, pair_text, elements_before, pairs_before, IsValue, IsElement, IsPair}
use Rattle.tinyjson_grammar.specs.Prefix.{AreElementsBefore, ArePairsBefore, elements_deepest, pairs_deepest}
use Rattle.tinyjson_grammar.specs.Machine
use Rattle.tinyjson_grammar.specs.Machine.{Frame}

abbrev pub IsKey : Syntax → Type 0
IsKey s = is_key s ≡ true

-- the open containers, the outermost first, with the white space in front of the place
pub data Path : Type 0 where
  outside : List ℕ → Path
  item_in : Path → List Element → List ℕ → Path
  key_in : Path → List Pair → List ℕ → Path
  value_in : Path → List Pair → List ℕ → Syntax → List ℕ → List ℕ → Path

abbrev pub path_text : Path → List ℕ
path_text (outside w) = w
path_text (item_in p es w) = path_text p ++ 91 ∷ (elements_before es ++ w)
path_text (key_in p ps w) = path_text p ++ 123 ∷ (pairs_before ps ++ w)
path_text (value_in p ps a k b w) = path_text p ++ 123 ∷ (pairs_before ps ++ (a ++ (text k ++ (b ++ 58 ∷ w))))

abbrev pub level : Path → ℕ
level (outside w) = 0
level (item_in p es w) = suc (level p)
level (key_in p ps w) = suc (level p)
level (value_in p ps a k b w) = suc (level p)

abbrev pub trees_of : List Element → List Tree
trees_of [] = []
trees_of (e ∷ es) = tree_of e.value ∷ trees_of es

abbrev pub members_from : Members → List Pair → Members
members_from ms [] = ms
members_from ms (p ∷ ps) = members_from (put (key_of (tree_of p.key)) (tree_of p.value) ms) ps

abbrev pub path_frames : Path → List Frame
path_frames (outside w) = []
path_frames (item_in p es w) = Machine.in_array (trees_of es) ∷ path_frames p
path_frames (key_in p ps w) = Machine.at_key (members_from no_members ps) ∷ path_frames p
path_frames (value_in p ps a k b w) = Machine.at_value (members_from no_members ps) (key_of (tree_of k)) ∷ path_frames p

abbrev pub IsPath : Option ℕ → Path → Type 0
IsPath limit (outside w) = AreWhite w
IsPath limit (item_in p es w) = IsPath limit p × AreElementsBefore es × AreWhite w × IsWithin limit (level p + (1 + elements_deepest es))
IsPath limit (key_in p ps w) = IsPath limit p × ArePairsBefore ps × AreWhite w × IsWithin limit (level p + (1 + pairs_deepest ps))
IsPath limit (value_in p ps a k b w) = IsPath limit p × ArePairsBefore ps × AreWhite a × IsValue k × IsKey k × AreWhite b × AreWhite w
    × IsWithin limit (level p + (1 + pairs_deepest ps))

-- ---- limits

pub within_le : (limit : Option ℕ) (m n : ℕ) → IsWithin limit n → m ≤ n → IsWithin limit m
within_le None m n h le = tt
within_le (Some l) m n h le = omega arith

pub within_max : (limit : Option ℕ) (k m n : ℕ) → IsWithin limit m → IsWithin limit n → k ≤ max m n → IsWithin limit k
within_max None k m n h i le = tt
within_max (Some l) k m n h i le = omega arith

-- ---- lists of items and pairs with one more at the end

pub before_push : (es : List Element) (e : Element) → elements_before (es ++ e ∷ []) ≡ elements_before es ++ (element_text e ++ 44 ∷ [])
before_push [] e = refl
before_push (d ∷ es) e = simp (before_push es e, append_assoc)

pub pairs_push : (ps : List Pair) (p : Pair) → pairs_before (ps ++ p ∷ []) ≡ pairs_before ps ++ (pair_text p ++ 44 ∷ [])
pairs_push [] p = refl
pairs_push (q ∷ ps) p = simp (pairs_push ps p, append_assoc)

pub trees_push : (es : List Element) (e : Element) → trees_of (es ++ e ∷ []) ≡ trees_of es ++ tree_of e.value ∷ []
trees_push [] e = refl
trees_push (d ∷ es) e = ap (λ ts. tree_of d.value ∷ ts) (trees_push es e)

pub members_push : (ms : Members) (ps : List Pair) (p : Pair)
    → members_from ms (ps ++ p ∷ []) ≡ put (key_of (tree_of p.key)) (tree_of p.value) (members_from ms ps)
members_push ms [] p = refl
members_push ms (q ∷ ps) p = members_push (put (key_of (tree_of q.key)) (tree_of q.value) ms) ps p

pub deepest_push : (es : List Element) (e : Element) → elements_deepest (es ++ e ∷ []) ≡ max (elements_deepest es) (depth e.value)
deepest_push [] e = omega arith
deepest_push (d ∷ es) e = rw (deepest_push es e) (omega arith)

pub pairs_deepest_push : (ps : List Pair) (p : Pair)
    → pairs_deepest (ps ++ p ∷ []) ≡ max (pairs_deepest ps) (max (depth p.key) (depth p.value))
pairs_deepest_push [] p = omega arith
pairs_deepest_push (q ∷ ps) p = rw (pairs_deepest_push ps p) (omega arith)

pub AreElements_push : (es : List Element) (e : Element) → AreElementsBefore es → IsElement e → AreElementsBefore (es ++ e ∷ [])
AreElements_push [] e h i = (i, tt)
AreElements_push (d ∷ es) e h i = (h.0, AreElements_push es e h.1 i)

pub ArePairs_push : (ps : List Pair) (p : Pair) → ArePairsBefore ps → IsPair p → ArePairsBefore (ps ++ p ∷ [])
ArePairs_push [] p h i = (i, tt)
ArePairs_push (q ∷ ps) p h i = (h.0, ArePairs_push ps p h.1 i)

-- ---- the container whose last item or pair is given

abbrev pub items_with : List Element → List ℕ → Syntax → List ℕ → Elements
items_with [] w s v = last_element w s v
items_with (e ∷ es) w s v = element e.before e.value e.after (items_with es w s v)

abbrev pub pairs_with : List Pair → List ℕ → Syntax → List ℕ → List ℕ → Syntax → List ℕ → Pairs
pairs_with [] a k b c s d = last_pair a k b c s d
pairs_with (p ∷ ps) a k b c s d = pair p.before_key p.key p.after_key p.before p.value p.after (pairs_with ps a k b c s d)

pub text_of_items : (es : List Element) (w : List ℕ) (s : Syntax) (v : List ℕ)
    → elements_text (items_with es w s v) ≡ elements_before es ++ (w ++ (text s ++ v))
text_of_items [] w s v = refl
text_of_items (e ∷ es) w s v = simp (text_of_items es w s v, append_assoc)

pub text_of_pairs : (ps : List Pair) (a : List ℕ) (k : Syntax) (b c : List ℕ) (s : Syntax) (d : List ℕ) →
    pairs_text (pairs_with ps a k b c s d) ≡ pairs_before ps ++ (a ++ (text k ++ (b ++ 58 ∷ (c ++ (text s ++ d)))))
text_of_pairs [] a k b c s d = refl
text_of_pairs (p ∷ ps) a k b c s d = simp (text_of_pairs ps a k b c s d, append_assoc)

pub items_trees : (es : List Element) (w : List ℕ) (s : Syntax) (v : List ℕ)
    → elements_trees (items_with es w s v) ≡ trees_of es ++ tree_of s ∷ []
items_trees [] w s v = refl
items_trees (e ∷ es) w s v = ap (λ ts. tree_of e.value ∷ ts) (items_trees es w s v)

pub members_of_pairs : (ms : Members) (ps : List Pair) (a : List ℕ) (k : Syntax) (b c : List ℕ) (s : Syntax) (d : List ℕ) →
    pairs_members ms (pairs_with ps a k b c s d) ≡ put (key_of (tree_of k)) (tree_of s) (members_from ms ps)
members_of_pairs ms [] a k b c s d = refl
members_of_pairs ms (p ∷ ps) a k b c s d = members_of_pairs (put (key_of (tree_of p.key)) (tree_of p.value) ms) ps a k b c s d

pub depth_of_items : (es : List Element) (w : List ℕ) (s : Syntax) (v : List ℕ)
    → elements_depth (items_with es w s v) ≡ max (elements_deepest es) (depth s)
depth_of_items [] w s v = omega arith
depth_of_items (e ∷ es) w s v = rw (depth_of_items es w s v) (omega arith)

pub depth_of_pairs : (ps : List Pair) (a : List ℕ) (k : Syntax) (b c : List ℕ) (s : Syntax) (d : List ℕ) →
    pairs_depth (pairs_with ps a k b c s d) ≡ max (pairs_deepest ps) (max (depth k) (depth s))
depth_of_pairs [] a k b c s d = omega arith
depth_of_pairs (p ∷ ps) a k b c s d = rw (depth_of_pairs ps a k b c s d) (omega arith)

pub items_spelled : (es : List Element) (w : List ℕ) (s : Syntax) (v : List ℕ) → AreElementsBefore es → AreWhite w → IsSpelled s
    → AreWhite v → AreElements (items_with es w s v)
items_spelled [] w s v h hw hs hv = (hw, hs, hv)
items_spelled (e ∷ es) w s v h hw hs hv = (h.0.before, h.0.value.spelled, h.0.after, items_spelled es w s v h.1 hw hs hv)

pub items_strict : (es : List Element) (w : List ℕ) (s : Syntax) (v : List ℕ) → AreElementsBefore es → IsStrict s
    → ElementsAreStrict (items_with es w s v)
items_strict [] w s v h hs = hs
items_strict (e ∷ es) w s v h hs = (h.0.value.strict, items_strict es w s v h.1 hs)

pub pairs_spelled : (ps : List Pair) (a : List ℕ) (k : Syntax) (b c : List ℕ) (s : Syntax) (d : List ℕ) →
    ArePairsBefore ps → AreWhite a → IsSpelled k → AreWhite b → AreWhite c → IsSpelled s → AreWhite d → ArePairs (pairs_with ps a k b c s d)
pairs_spelled [] a k b c s d h ha hk hb hc hs hd = (ha, hk, hb, hc, hs, hd)
pairs_spelled (p ∷ ps) a k b c s d h ha hk hb hc hs hd = (
  h.0.before_key,
  h.0.key.spelled,
  h.0.after_key,
  h.0.before,
  h.0.value.spelled,
  h.0.after,
  pairs_spelled ps a k b c s d h.1 ha hk hb hc hs hd,
)

pub pairs_strict : (ps : List Pair) (a : List ℕ) (k : Syntax) (b c : List ℕ) (s : Syntax) (d : List ℕ) →
    ArePairsBefore ps → IsKey k → IsStrict k → IsStrict s → PairsAreStrict (pairs_with ps a k b c s d)
pairs_strict [] a k b c s d h hk ht hs = (hk, ht, hs)
pairs_strict (p ∷ ps) a k b c s d h hk ht hs = (h.0.is_key, h.0.key.strict, h.0.value.strict, pairs_strict ps a k b c s d h.1 hk ht hs)

pub key_depth : (k : Syntax) → IsKey k → depth k ≡ 0
key_depth (Syntax.string ps) h = refl
key_depth _ h = absurd (false≢true h)

pub key_or : (k : Syntax) → IsKey k ⊎ (is_key k ≡ false)
key_or k = cases_Bool (is_key k)

-- ---- the whole text round a place

abbrev pub closing : Path → List ℕ
closing (outside w) = []
closing (item_in p es w) = 93 ∷ closing p
closing (key_in p ps w) = 58 ∷ 48 ∷ 125 ∷ closing p
closing (value_in p ps a k b w) = 125 ∷ closing p

pub closes : (limit : Option ℕ) (p : Path) → IsPath limit p → (s : Syntax) → IsSpelled s → IsWithin limit (level p + depth s)
    → (v : List ℕ) → AreWhite v → IsLoose limit (path_text p ++ (text s ++ (v ++ closing p)))
closes limit (outside w) hp s hs hd v hv = record {
  before = w;
  value = s;
  after = v;
  white_before = hp;
  spelled = hs;
  white_after = hv;
  shallow = within_le limit _ _ hd (omega arith);
  whole = simp append-nil;
}
closes limit (item_in p es w) hp s hs hd v hv = subst (IsLoose limit) (simp (text_of_items, append_assoc))
    (closes limit p hp.0 (array (items_with es w s v)) (items_spelled es w s v hp.1 hp.2 hs hv)
    (within_max limit _ _ _ hp.3 hd (rw (depth_of_items es w s v) (omega arith))) [] tt)
closes limit (key_in p ps w) hp s hs hd v hv =
    let zero_numeral : Syntax = Syntax.number (record { negative = false; integer = 48 ∷ []; fraction = []; exponent = None }) in
    subst (IsLoose limit) (simp (text_of_pairs, append_assoc)) (closes limit p hp.0 (object (pairs_with ps w s v [] zero_numeral []))
    (pairs_spelled ps w s v [] zero_numeral [] hp.1 hp.2 hs hv tt
    (record { integer = (refl, tt); some_digit = omega arith; fraction = tt; exponent = tt }) tt)
    (within_max limit _ _ _ hp.3 hd (rw (depth_of_pairs ps w s v [] zero_numeral []) (omega arith))) [] tt)
closes limit (value_in p ps a k b w) hp s hs hd v hv = subst (IsLoose limit) (simp (text_of_pairs, append_assoc))
    (closes limit p hp.0 (object (pairs_with ps a k b w s v)) (pairs_spelled ps a k b w s v hp.1 hp.2 hp.3.spelled hp.5 hp.6 hs hv)
    (within_max limit _ _ _ hp.7 hd (rw (depth_of_pairs ps a k b w s v) (rw (key_depth k hp.4) (omega arith)))) [] tt)
