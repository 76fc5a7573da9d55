-- What a text of the grammar gives is a sound tree, no deeper than the text.
use Rattle.std.proofs.Common.{◌≡◌, ℕ, ◌<◌, ◌≤◌, max, Bool, true, false, cond, List, [], ◌∷◌, Option}
use Rattle.std.proofs.Common.{refl, sym, subst, arith, IsTrue, not, ◌&&◌}
use Rattle.std.specs.Prelude.{⊤, unwrap_or}
use Rattle.std.specs.Int.{Width}
use Rattle.std.specs.Char.{IsScalar, digit_value}
use Rattle.std.specs.Str.{all_scalars}
use Rattle.std.specs.Ordering.{match_ordering}
use Rattle.std.specs.declared.cmp.Ordering.{Ordering}
use Rattle.std.specs.declared.cmp.Ordering.TheVariants.{Less, Equal, Greater}
use Rattle.std.proofs.lemmas.Bool.{false≢true, and_from, and_parts, ltb-true}
use Rattle.tinyjson_grammar.specs.Characters.{short_escape, is_hex, is_high, is_low, is_surrogate, pair_of, decode, paired}
use Rattle.tinyjson_grammar.specs.Tree as tree
use Rattle.tinyjson_grammar.specs.Tree.{key_cmp, tree_depth, items_depth, members_depth}
use Rattle.tinyjson_grammar.specs.Syntax.{Syntax, Elements, Pairs, null, number, string, array, empty_object, object, last_element, element}
use Rattle.tinyjson_grammar.specs.Syntax.{last_pair, pair, Piece, plain, escape, unit, IsPiece, ArePieces, code, piece_codes, unit_value}
use Rattle.tinyjson_grammar.specs.Syntax.{IsSpelled, AreElements, ArePairs, IsStrictAt, ElementsAreStrictAt, PairsAreStrictAt, is_key}
use Rattle.tinyjson_grammar.specs.Syntax.{tree_of, elements_trees, pairs_members, depth, elements_depth, pairs_depth}
use Rattle.tinyjson_grammar.specs.Soundness.{IsSorted, IsTree, IsTreeAt, AreItemsAt, AreMembersAt}
use Rattle.tinyjson_grammar.specs.Grammar.{IsText, IsTextAt}
use Rattle.tinyjson_grammar.proofs.Members.{sorted_put}
use Rattle.tinyjson_number.specs.Numeral.{power_width}
use Rattle.tinyjson_number.proofs.Callers.{value_canonical}

-- ---- characters

abbrev AreCodes : List ℕ → Type 0
AreCodes [] = ⊤
AreCodes (u ∷ us) = (u < 1114112) × AreCodes us

escape_code : (c : ℕ) → unwrap_or (short_escape c) 0 < 1114112
escape_code c = grind arith

unit_code : (a b c d : ℕ) → IsTrue (is_hex a) → IsTrue (is_hex b) → IsTrue (is_hex c) → IsTrue (is_hex d) → unit_value a b c d < 1114112
unit_code a b c d ha hb hc hd = omega (
  arith,
  ltb-true (digit_value a) 16 ha,
  ltb-true (digit_value b) 16 hb,
  ltb-true (digit_value c) 16 hc,
  ltb-true (digit_value d) 16 hd,
)

scalar_code : (c : ℕ) → IsScalar c → c < 1114112
scalar_code c h = grind arith

piece_code : (p : Piece) → IsPiece p → code p < 1114112
piece_code (plain c) h = scalar_code c h.0
piece_code (escape c) h = escape_code c
piece_code (unit a b c d) h = unit_code a b c d h.0 h.1 h.2 h.3

pieces_codes : (ps : List Piece) → ArePieces ps → AreCodes (piece_codes ps)
pieces_codes [] h = tt
pieces_codes (p ∷ ps) h = (piece_code p h.0, pieces_codes ps h.1)

alone_scalar : (u : ℕ) → u < 1114112 → not (is_surrogate u) ≡ true → IsScalar u
alone_scalar u h k = grind arith

pair_scalar : (u v : ℕ) → (is_high u && is_low v) ≡ true → IsScalar (pair_of u v)
pair_scalar u v h = grind arith

choose : (b : Bool) (x y : List ℕ) (p q : Bool) → cond b p q ≡ true → (b ≡ true → p ≡ true → IsTrue (all_scalars x))
    → (b ≡ false → q ≡ true → IsTrue (all_scalars y)) → IsTrue (all_scalars (cond b x y))
choose true x y p q e f g = f refl e
choose false x y p q e f g = g refl e

decoded : (us : List ℕ) → AreCodes us → IsTrue (paired us) → IsTrue (all_scalars (decode us))
decoded [] h e = refl
decoded (u ∷ []) h e = and_from _ _ (alone_scalar u h.0 e) refl
decoded (u ∷ v ∷ us) h e = choose (is_high u && is_low v) _ _ _ _ e (λ b p. and_from _ _ (pair_scalar u v b) (decoded us h.1.1 p))
    (λ b p. let k = and_parts _ _ p in and_from _ _ (alone_scalar u h.0 k.0) (decoded (v ∷ us) h.1 k.1))

pub string_scalars : (ps : List Piece) → ArePieces ps → IsTrue (paired (piece_codes ps)) → IsTrue (all_scalars (decode (piece_codes ps)))
string_scalars ps h e = decoded (piece_codes ps) (pieces_codes ps h) e

-- ---- members

depth_put_at : (o : Ordering) (k : List ℕ) (t : tree.Tree) (l : List ℕ) (u : tree.Tree) (ms more : tree.Members)
    → members_depth more ≤ max (tree_depth t) (members_depth ms)
    → members_depth (tree.put_at o k t l u ms more) ≤ max (tree_depth t) (max (tree_depth u) (members_depth ms))
depth_put_at Less k t l u ms more h = omega arith
depth_put_at _ k t l u ms more h = omega arith

depth_put : (k : List ℕ) (t : tree.Tree) (ms : tree.Members) → members_depth (tree.put k t ms) ≤ max (tree_depth t) (members_depth ms)
depth_put k t tree.no_members = omega arith
depth_put k t (tree.member l u ms) = depth_put_at (key_cmp k l) k t l u ms (tree.put k t ms) (depth_put k t ms)

are_put_at : (width : Width) (o : Ordering) (k l : List ℕ) (t u : tree.Tree) (ms : tree.Members) → IsTrue (all_scalars k) → IsTreeAt width t
    → AreMembersAt width (tree.member l u ms) → AreMembersAt width (tree.put k t ms)
    → AreMembersAt width (match_ordering o (tree.member k t (tree.member l u ms)) (tree.member k t ms) (tree.member l u (tree.put k t ms)))
are_put_at width Less k l t u ms a b c later = (a, b, c)
are_put_at width Equal k l t u ms a b c later = (a, b, c.2)
are_put_at width Greater k l t u ms a b c later = (c.0, c.1, later)

pub are_put : (width : Width) (k : List ℕ) (t : tree.Tree) (ms : tree.Members)
    → IsTrue (all_scalars k) → IsTreeAt width t → AreMembersAt width ms
    → AreMembersAt width (tree.put k t ms)
are_put width k t tree.no_members a b c = (a, b, tt)
are_put width k t (tree.member l u ms) a b c = are_put_at width (key_cmp k l) k l t u ms a b c (are_put width k t ms a b c.2)

-- ---- values

key_scalars : (width : Width) (k : Syntax) → IsSpelled k → IsTrue (is_key k) → IsStrictAt width k
    → IsTrue (all_scalars (tree.key_of (tree_of k)))
key_scalars width (string ps) h i s = string_scalars ps h s
key_scalars width null h i s = absurd (false≢true i)
key_scalars width _ h i s = absurd (false≢true i)

mutual
  pub tree_is : (width : Width) (s : Syntax) → IsSpelled s → IsStrictAt width s → IsTreeAt width (tree_of s)
  tree_is width (number n) h s = value_canonical width n h s.1
  tree_is width (string ps) h s = string_scalars ps h s
  tree_is width (array es) h s = items_are width es h s
  tree_is width (empty_object w) h s = (tt, tt)
  tree_is width (object ps) h s = members_are width ps tree.no_members h s tt tt
  tree_is width _ h s = tt

  items_are : (width : Width) (es : Elements) → AreElements es → ElementsAreStrictAt width es
      → AreItemsAt width (tree.items_of (elements_trees es))
  items_are width (last_element v s w) h k = (tree_is width s h.1 k, tt)
  items_are width (element v s w es) h k = (tree_is width s h.1 k.0, items_are width es h.3 k.1)

  members_are : (width : Width) (ps : Pairs) (ms : tree.Members) → ArePairs ps → PairsAreStrictAt width ps → IsSorted ms
      → AreMembersAt width ms → AreMembersAt width (pairs_members ms ps) × IsSorted (pairs_members ms ps)
  members_are width (last_pair a k b c s d) ms h j r m =
      (are_put width _ _ ms (key_scalars width k h.1 j.0 j.1) (tree_is width s h.4 j.2) m, sorted_put _ _ ms r)
  members_are width (pair a k b c s d ps) ms h j r m =
      members_are width ps (tree.put (tree.key_of (tree_of k)) (tree_of s) ms) h.6 j.3 (sorted_put _ _ ms r)
      (are_put width _ _ ms (key_scalars width k h.1 j.0 j.1) (tree_is width s h.4 j.2) m)

-- ---- depth

mutual
  pub depth_is : (s : Syntax) → tree_depth (tree_of s) ≤ depth s
  depth_is null = omega arith
  depth_is (array es) = omega (arith, depth_of_items es)
  depth_is (object ps) = omega (arith, depth_of_members ps tree.no_members)
  depth_is _ = omega arith

  depth_of_items : (es : Elements) → items_depth (tree.items_of (elements_trees es)) ≤ elements_depth es
  depth_of_items (last_element v s w) = omega (arith, depth_is s)
  depth_of_items (element v s w es) = omega (arith, depth_is s, depth_of_items es)

  depth_of_members : (ps : Pairs) (ms : tree.Members) → members_depth (pairs_members ms ps) ≤ max (members_depth ms) (pairs_depth ps)
  depth_of_members (last_pair a k b c s d) ms = omega (arith, depth_put (tree.key_of (tree_of k)) (tree_of s) ms, depth_is s)
  depth_of_members (pair a k b c s d ps) ms = omega (
    arith,
    depth_put (tree.key_of (tree_of k)) (tree_of s) ms,
    depth_is s,
    depth_of_members ps (tree.put (tree.key_of (tree_of k)) (tree_of s) ms),
  )

-- ---- texts

pub sound_at : (width : Width) (limit : Option ℕ) (xs : List ℕ) (t : tree.Tree) → IsTextAt width limit xs t → IsTreeAt width t
sound_at width limit xs t h = subst (IsTreeAt width) (sym h.tree) (tree_is width h.loose.value h.loose.spelled h.strict)

pub text_sound : (limit : Option ℕ) (xs : List ℕ) (t : tree.Tree) → IsText limit xs t → IsTree t
text_sound limit xs t h = sound_at power_width limit xs t h
