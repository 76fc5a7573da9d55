-- The text of a tree is a text of the grammar, with that tree.
use Rattle.std.proofs.Common.{◌≡◌, ℕ, zero, suc, ◌+◌, max, true, false, List, [], ◌∷◌, ◌++◌, Option, Some, None, refl, ap, ◌∙◌}
use Rattle.std.proofs.Common.{append_assoc, arith, IsTrue, not}
use Rattle.std.specs.Prelude.{⊤}
use Rattle.std.specs.Int.{Width}
use Rattle.std.specs.Str.{all_scalars}
use Rattle.tinyjson_grammar.specs.Tree as tree
use Rattle.tinyjson_grammar.specs.Syntax.{Syntax, Elements, Pairs, null, boolean, number, string, empty_array, array, empty_object, object}
use Rattle.tinyjson_grammar.specs.Syntax.{last_element, element, last_pair, pair, text, elements_text, pairs_text, AreWhite, IsSpelled}
use Rattle.tinyjson_grammar.specs.Syntax.{AreElements, ArePairs, IsStrictAt, ElementsAreStrictAt, PairsAreStrictAt, tree_of, elements_trees}
use Rattle.tinyjson_grammar.specs.Syntax.{pairs_members, depth, elements_depth, pairs_depth}
use Rattle.tinyjson_grammar.specs.Characters.{decode}
use Rattle.tinyjson_number.specs.Canonical.{IsDecimalAt}
use Rattle.tinyjson_grammar.specs.Soundness.{IsSorted, IsTreeAt, AreItemsAt, AreMembersAt}
use Rattle.tinyjson_grammar.specs.Tree.{tree_depth, items_depth, members_depth}
use Rattle.tinyjson_grammar.specs.Text as written
use Rattle.tinyjson_grammar.specs.Text.{newline, repeated, after_colon, quoted, items_text, members_text}
use Rattle.tinyjson_number.proofs.Callers.{decimal_spelled, decimal_fits}
use Rattle.tinyjson_grammar.proofs.Texts.QuotedTrip.{escapes_stand, decode_scalars, paired_scalars}
use Rattle.tinyjson_grammar.proofs.JoinedMembers.{join, IsAbove, put_above, join_join, above_join}
use Rattle.tinyjson_grammar.proofs.Trace.State.{are_white_append}

-- ---- white space

-- the indent, where there is one, is white
abbrev pub IsWhiteIndent : Option (List ℕ) → Type 0
IsWhiteIndent None = ⊤
IsWhiteIndent (Some i) = AreWhite i

white_repeated : (k : ℕ) (i : List ℕ) → AreWhite i → AreWhite (repeated k i)
white_repeated zero i h = tt
white_repeated (suc k) i h = are_white_append i (repeated k i) h (white_repeated k i h)

white_newline : (w : Option (List ℕ)) (k : ℕ) → IsWhiteIndent w → AreWhite (newline w k)
white_newline None k h = tt
white_newline (Some i) k h = (refl, white_repeated k i h)

white_colon : (w : Option (List ℕ)) → AreWhite (after_colon w)
white_colon None = tt
white_colon (Some i) = (refl, tt)

-- ---- a value

-- xs spells t
pub record Spells (width : Width) (t : tree.Tree) (xs : List ℕ) : Type 0 where
  pub value : Syntax
  pub spelled : IsSpelled value
  pub strict : IsStrictAt width value
  pub tree : tree_of value ≡ t
  pub depth : depth value ≡ tree_depth t
  pub text : text value ≡ xs

record SpellItems (width : Width) (t : tree.Tree) (ts : tree.Items) (xs : List ℕ) : Type 0 where
  pub elements : Elements
  pub spelled : AreElements elements
  pub strict : ElementsAreStrictAt width elements
  pub trees : tree.items_of (elements_trees elements) ≡ tree.item t ts
  pub depth : elements_depth elements ≡ max (tree_depth t) (items_depth ts)
  pub text : elements_text elements ≡ xs

record SpellMembers (width : Width) (k : List ℕ) (t : tree.Tree) (ms : tree.Members) (xs : List ℕ) : Type 0 where
  pub pairs : Pairs
  pub spelled : ArePairs pairs
  pub strict : PairsAreStrictAt width pairs
  pub members : (ns : tree.Members) → IsAbove k ns → pairs_members ns pairs ≡ join ns (tree.member k t ms)
  pub depth : pairs_depth pairs ≡ max (tree_depth t) (members_depth ms)
  pub text : pairs_text pairs ≡ xs

spell_decimal : (width : Width) (d : _) → IsDecimalAt width d → Spells width (tree.number d) (written.text None 0 (tree.number d))
spell_decimal width d h =
    let s = decimal_spelled width d h in record {
      value = number s.numeral;
      spelled = s.is;
      strict = (ap not s.plain, rw s.value (decimal_fits width d h));
      tree = ap tree.number s.value;
      depth = refl;
      text = s.text;
    }

spell_string : (width : Width) (cs : List ℕ) → IsTrue (all_scalars cs) → Spells width (tree.string cs) (quoted cs)
spell_string width cs h =
    let s = escapes_stand cs h in record {
      value = string s.pieces;
      spelled = s.are;
      strict = rw s.codes (paired_scalars cs h);
      tree = rw s.codes (ap tree.string (decode_scalars cs h));
      depth = refl;
      text = ap (λ z. 34 ∷ (z ++ 34 ∷ [])) s.text;
    }

-- ---- the texts of items and members after the first

item_assoc : (v u t is w : List ℕ) → v ++ (u ++ ([] ++ 44 ∷ (v ++ (t ++ (is ++ w))))) ≡ v ++ (u ++ (((44 ∷ v) ++ (t ++ is)) ++ w))
item_assoc v u t is w = simp append_assoc

last_assoc : (v q c t w : List ℕ) → v ++ (q ++ ([] ++ 58 ∷ (c ++ (t ++ w)))) ≡ v ++ ((q ++ (58 ∷ (c ++ t))) ++ w)
last_assoc v q c t w = simp append_assoc

member_assoc : (v q c t r ms w : List ℕ) → v ++ (q ++ ([] ++ 58 ∷ (c ++ (t ++ ([] ++ 44 ∷ (v ++ (r ++ (ms ++ w))))))))
    ≡ v ++ ((q ++ (58 ∷ (c ++ t))) ++ (((44 ∷ v) ++ (r ++ ms)) ++ w))
member_assoc v q c t r ms w = simp append_assoc

closing_assoc : (v t is w : List ℕ) (b : ℕ) → (v ++ (t ++ (is ++ w))) ++ b ∷ [] ≡ (v ++ (t ++ is)) ++ (w ++ b ∷ [])
closing_assoc v t is w b = simp append_assoc

module _ (width : Width) (w : Option (List ℕ)) (i : IsWhiteIndent w) where
  -- from the white before the first to the white after the last
  abbrev inside_items : ℕ → tree.Tree → tree.Items → List ℕ
  inside_items k t ts = newline w (k + 1) ++ (written.text w (k + 1) t ++ (items_text w (k + 1) false ts ++ newline w k))

  abbrev inside_members : ℕ → List ℕ → tree.Tree → tree.Members → List ℕ
  inside_members k l t ms = newline w (k + 1) ++ ((quoted l ++ (58 ∷ (after_colon w ++ written.text w (k + 1) t)))
      ++ (members_text w (k + 1) false ms ++ newline w k))

  abbrev ItemsSpelled : ℕ → tree.Items → Type 0
  ItemsSpelled k tree.no_items = ⊤
  ItemsSpelled k (tree.item t ts) = SpellItems width t ts (inside_items k t ts)

  abbrev MembersSpelled : ℕ → tree.Members → Type 0
  MembersSpelled k tree.no_members = ⊤
  MembersSpelled k (tree.member l t ms) = SpellMembers width l t ms (inside_members k l t ms)

  array_spelled : (k : ℕ) (ts : tree.Items) → ItemsSpelled k ts → Spells width (tree.array ts) (written.text w k (tree.array ts))
  array_spelled k tree.no_items s = record { value = empty_array []; spelled = tt; strict = tt; tree = refl; depth = refl; text = refl }
  array_spelled k (tree.item t ts) s = record {
    value = array s.elements;
    spelled = s.spelled;
    strict = s.strict;
    tree = ap tree.array s.trees;
    depth = ap (λ n. 1 + n) s.depth;
    text = ap (λ z. 91 ∷ (z ++ 93 ∷ [])) s.text ∙ ap (λ z. 91 ∷ z)
        (closing_assoc (newline w (k + 1)) (written.text w (k + 1) t) (items_text w (k + 1) false ts) (newline w k) 93);
  }

  object_spelled : (k : ℕ) (ms : tree.Members) → MembersSpelled k ms → Spells width (tree.object ms) (written.text w k (tree.object ms))
  object_spelled k tree.no_members s = record { value = empty_object []; spelled = tt; strict = tt; tree = refl; depth = refl; text = refl }
  object_spelled k (tree.member l t ms) s = record {
    value = object s.pairs;
    spelled = s.spelled;
    strict = s.strict;
    tree = ap tree.object (s.members tree.no_members tt);
    depth = ap (λ n. 1 + n) s.depth;
    text = ap (λ z. 123 ∷ (z ++ 125 ∷ [])) s.text ∙ ap (λ z. 123 ∷ z)
        (closing_assoc (newline w (k + 1)) (quoted l ++ (58 ∷ (after_colon w ++ written.text w (k + 1) t)))
        (members_text w (k + 1) false ms) (newline w k) 125);
  }

  item_spelled : (k : ℕ) (t : tree.Tree) (ts : tree.Items) → Spells width t (written.text w (k + 1) t) → ItemsSpelled k ts
      → SpellItems width t ts (inside_items k t ts)
  item_spelled k t tree.no_items s m = record {
    elements = last_element (newline w (k + 1)) s.value (newline w k);
    spelled = (white_newline w (k + 1) i, s.spelled, white_newline w k i);
    strict = s.strict;
    trees = ap (λ z. tree.item z tree.no_items) s.tree;
    depth = omega (arith, s.depth);
    text = ap (λ z. newline w (k + 1) ++ (z ++ newline w k)) s.text;
  }
  item_spelled k t (tree.item u us) s m = record {
    elements = element (newline w (k + 1)) s.value [] m.elements;
    spelled = (white_newline w (k + 1) i, s.spelled, tt, m.spelled);
    strict = (s.strict, m.strict);
    trees = λ j. tree.item (s.tree j) (m.trees j);
    depth = λ j. max (s.depth j) (m.depth j);
    text = (λ j. newline w (k + 1) ++ (s.text j ++ ([] ++ 44 ∷ m.text j)))
        ∙ item_assoc (newline w (k + 1)) (written.text w (k + 1) t) (written.text w (k + 1) u) (items_text w (k + 1) false us)
        (newline w k);
  }

  member_spelled : (k : ℕ) (l : List ℕ) (t : tree.Tree) (ms : tree.Members) → IsSorted (tree.member l t ms) → IsTrue (all_scalars l)
      → Spells width t (written.text w (k + 1) t) → MembersSpelled k ms → SpellMembers width l t ms (inside_members k l t ms)
  member_spelled k l t tree.no_members r hl s m = let e = escapes_stand l hl in record {
    pairs = last_pair (newline w (k + 1)) (string e.pieces) [] (after_colon w) s.value (newline w k);
    spelled = (white_newline w (k + 1) i, e.are, tt, white_colon w, s.spelled, white_newline w k i);
    strict = (refl, rw e.codes (paired_scalars l hl), s.strict);
    members = λ ns above. (λ j. tree.put ((ap decode e.codes ∙ decode_scalars l hl) j) (s.tree j) ns) ∙ put_above l t ns above;
    depth = omega (arith, s.depth);
    text = (λ j. newline w (k + 1) ++ ((34 ∷ (e.text j ++ 34 ∷ [])) ++ ([] ++ 58 ∷ (after_colon w ++ (s.text j ++ newline w k)))))
        ∙ last_assoc (newline w (k + 1)) (quoted l) (after_colon w) (written.text w (k + 1) t) (newline w k);
  }
  member_spelled k l t (tree.member o u ms) r hl s m = let e = escapes_stand l hl in record {
    pairs = pair (newline w (k + 1)) (string e.pieces) [] (after_colon w) s.value [] m.pairs;
    spelled = (white_newline w (k + 1) i, e.are, tt, white_colon w, s.spelled, tt, m.spelled);
    strict = (refl, rw e.codes (paired_scalars l hl), s.strict, m.strict);
    members = λ ns above. ap (λ z. pairs_members z m.pairs) ((λ j. tree.put ((ap decode e.codes ∙ decode_scalars l hl) j) (s.tree j) ns)
        ∙ put_above l t ns above)
        ∙ m.members (join ns (tree.member l t tree.no_members)) (above_join l o t ns r.0 above)
        ∙ join_join ns (tree.member l t tree.no_members) (tree.member o u ms);
    depth = omega (arith, s.depth, m.depth);
    text = (λ j. newline w (k + 1) ++ ((34 ∷ (e.text j ++ 34 ∷ []))
        ++ ([] ++ 58 ∷ (after_colon w ++ (s.text j ++ ([] ++ 44 ∷ m.text j))))))
        ∙ member_assoc (newline w (k + 1)) (quoted l) (after_colon w) (written.text w (k + 1) t)
        (quoted o ++ (58 ∷ (after_colon w ++ written.text w (k + 1) u))) (members_text w (k + 1) false ms) (newline w k);
  }

  mutual
    pub spell : (k : ℕ) (t : tree.Tree) → IsTreeAt width t → Spells width t (written.text w k t)
    spell k tree.null h = record { value = null; spelled = tt; strict = tt; tree = refl; depth = refl; text = refl }
    spell k (tree.boolean true) h = record { value = boolean true; spelled = tt; strict = tt; tree = refl; depth = refl; text = refl }
    spell k (tree.boolean false) h = record { value = boolean false; spelled = tt; strict = tt; tree = refl; depth = refl; text = refl }
    spell k (tree.number d) h = spell_decimal width d h
    spell k (tree.string cs) h = spell_string width cs h
    spell k (tree.array ts) h = array_spelled k ts (spell_items k ts h)
    spell k (tree.object ms) h = object_spelled k ms (spell_members k ms h.1 h.0)

    spell_items : (k : ℕ) (ts : tree.Items) → AreItemsAt width ts → ItemsSpelled k ts
    spell_items k tree.no_items h = tt
    spell_items k (tree.item t ts) h = item_spelled k t ts (spell (k + 1) t h.0) (spell_items k ts h.1)

    spell_members : (k : ℕ) (ms : tree.Members) → IsSorted ms → AreMembersAt width ms → MembersSpelled k ms
    spell_members k tree.no_members r h = tt
    spell_members k (tree.member l t ms) r h = member_spelled k l t ms r h.0 (spell (k + 1) t h.1) (spell_members k ms r.1 h.2)
