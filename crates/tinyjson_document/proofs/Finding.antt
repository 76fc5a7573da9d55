-- The member with a key, where the keys rise: it is the tree's.
use Rattle.std.proofs.Common.{◌≡◌, ℕ, Bool, true, false, bytes_eq, cond, List, [], ◌∷◌, Option, Some, None}
use Rattle.std.proofs.Common.{◌&&◌, refl, sym, ◌∙◌, ap, subst}
use mathlib.Core.Bool.{Bool-set}
use mathlib.Core.Logic.{∥∥₁_elim, ∥∥₁_map}
use Rattle.std.proofs.lemmas.Slice.Eq.{bytes_eq-Decides}
use Rattle.std.proofs.lemmas.Str.{encodes_same, encodes-chars}
use Rattle.std.specs.Cmp.Lexicographic.{slice_cmp}
use Rattle.std.specs.Ordering.{is_lt, nat_cmp}
use Rattle.std.specs.Str.{encode_utf8_all}
use Rattle.std.specs.declared.cmp.Ordering.{Ordering}
use Rattle.tinyjson.specs.Index.{tree_at_key}
use Rattle.tinyjson_number.specs.Numeral.{power_width}
use Rattle.tinyjson_grammar.specs.Soundness.{AreMembersAt, IsBelow, IsSorted}
use Rattle.tinyjson_grammar.specs.Tree.{Tree, null, boolean, number, string, array, object, find}
use Rattle.tinyjson_grammar.specs.Tree.{Members, no_members, member}
use Rattle.tinyjson_cells.specs.declared.store.Cell.{Cell}
use Rattle.tinyjson_cells.specs.declared.store.Span.{Span}
use Rattle.tinyjson_cells.specs.declared.store.Member.{Member}
use Rattle.tinyjson_cells.specs.declared.store.Store.{Store}
use Rattle.tinyjson_cells.specs.declared.texts.Texts.{Texts}
use Rattle.tinyjson_cells.specs.Texts.{part_of}
use Rattle.tinyjson_cells.specs.Cell.{IsText, Is, AreMembers}
use Rattle.tinyjson_document.specs.Known.{Known}
use Rattle.tinyjson_cells.specs.Order.{key_in, is_below_next, rise, member_with}
use Rattle.tinyjson_document.specs.Parts.{members_in}
use Rattle.tinyjson_document.proofs.Had.{members_had}
use Rattle.tinyjson_document.proofs.Places.{members_at, members_known, ItemAt}

abbrev enc : List ℕ → List ℕ
enc = encode_utf8_all

abbrev cmp : List ℕ → List ℕ → Ordering
cmp = slice_cmp nat_cmp

module _ (s : Store) where
  key_bytes : (k : List ℕ) (p : Span) → IsText s k p → part_of s.texts p ≡ enc k
  key_bytes k p h = sym (encodes-chars (part_of s.texts p) h.utf8) ∙ ap enc (sym h.characters)

  next_rises : (k : List ℕ) (e : Member) (ms : Members) (es : List Member) → IsText s k e.key → AreMembers s ms es → IsBelow k ms
      → is_below_next s.texts e es ≡ true
  next_rises k e no_members [] h a b = refl
  next_rises k e no_members (f ∷ es) h a b = absurd a
  next_rises k e (member l u ms) [] h a b = absurd a
  next_rises k e (member l u ms) (f ∷ es) h a b =
      ap (λ z. is_lt (cmp z (key_in s.texts f))) (key_bytes k e.key h) ∙ ap (λ z. is_lt (cmp (enc k) z)) (key_bytes l f.key a.0)
      ∙ ap is_lt b

  pub keys_rise : (ms : Members) (es : List Member) → AreMembers s ms es → IsSorted ms → rise s.texts es ≡ true
  keys_rise no_members [] h w = refl
  keys_rise no_members (e ∷ es) h w = absurd h
  keys_rise (member k t ms) [] h w = absurd h
  keys_rise (member k t ms) (e ∷ es) h w =
      ap (λ b. b && rise s.texts es) (next_rises k e ms es h.0 h.2 w.0) ∙ keys_rise ms es h.2 w.1

  same_key : (q k : List ℕ) (p : Span) → IsText s k p → bytes_eq (enc q) (part_of s.texts p) ≡ bytes_eq q k
  same_key q k p h = ap (bytes_eq (enc q)) (key_bytes k p h) ∙ by (bytes_eq q k) refl (bytes_eq (enc q) (enc k)) refl
    where
      by : (c : Bool) → bytes_eq q k ≡ c → (d : Bool) → bytes_eq (enc q) (enc k) ≡ d → bytes_eq (enc q) (enc k) ≡ bytes_eq q k
      by true e true f = f ∙ sym e
      by false e false f = f ∙ sym e
      by true e false f = let g = sym ((bytes_eq-Decides (enc q) (enc k)).1 (ap enc ((bytes_eq-Decides q k).0 e))) ∙ f in absurd cc
      by false e true f = let g = sym ((bytes_eq-Decides q k).1 (encodes_same q k ((bytes_eq-Decides (enc q) (enc k)).0 f))) ∙ e in
          absurd cc

  member_of : (q : List ℕ) (ms : Members) (es : List Member) (m : Member) → AreMembers s ms es → ∥ AreMembersAt power_width ms ∥₁
      → member_with s.texts (enc q) es ≡ Some m → ItemAt s (find q ms) m.value
  member_of q no_members [] m h w e = absurd cc
  member_of q no_members (f ∷ es) m h w e = absurd h
  member_of q (member k t ms) [] m h w e = absurd h
  member_of q (member k t ms) (f ∷ es) m h w e = by (member_of q ms es m h.2 (∥∥₁_map w (λ v. v.2))) (bytes_eq q k) refl
    where
      by : (member_with s.texts (enc q) es ≡ Some m → ItemAt s (find q ms) m.value) → (b : Bool) → bytes_eq q k ≡ b
          → ItemAt s (cond (bytes_eq q k) (Some t) (find q ms)) m.value
      by further true g =
          let here = sym (ap (λ b. cond b (Some f) (member_with s.texts (enc q) es)) (same_key q k f.key h.0 ∙ g)) ∙ e in
          let same : f ≡ m = cc in
          record {
            here = record { tree = t; is = ∣ subst (λ z. Is s t z.value) same h.1 ∣₁; sound = ∥∥₁_map w (λ v. v.1) };
            there = ap (λ b. cond b (Some t) (find q ms)) g;
          }
      by further false g =
          let later = sym (ap (λ b. cond b (Some f) (member_with s.texts (enc q) es)) (same_key q k f.key h.0 ∙ g)) ∙ e in
          subst (λ b. ItemAt s (cond b (Some t) (find q ms)) m.value) (sym g) (further later)

  no_member_with : (q : List ℕ) (ms : Members) (es : List Member) → AreMembers s ms es
      → member_with s.texts (enc q) es ≡ None → find q ms ≡ None
  no_member_with q no_members es h e = refl
  no_member_with q (member k t ms) [] h e = absurd h
  no_member_with q (member k t ms) (f ∷ es) h e = by (no_member_with q ms es h.2) (bytes_eq q k) refl
    where
      by : (member_with s.texts (enc q) es ≡ None → find q ms ≡ None) → (b : Bool) → bytes_eq q k ≡ b
          → cond (bytes_eq q k) (Some t) (find q ms) ≡ None
      by further true g =
          let here = sym (ap (λ b. cond b (Some f) (member_with s.texts (enc q) es)) (same_key q k f.key h.0 ∙ g)) ∙ e in
          absurd cc
      by further false g =
          let later = sym (ap (λ b. cond b (Some f) (member_with s.texts (enc q) es)) (same_key q k f.key h.0 ∙ g)) ∙ e in
          ap (λ b. cond b (Some t) (find q ms)) g ∙ further later

  tree_at_find : (t : Tree) (q : List ℕ) → tree_at_key t q ≡ find q (members_in t)
  tree_at_find null q = refl
  tree_at_find (boolean b) q = refl
  tree_at_find (number d) q = refl
  tree_at_find (string cs) q = refl
  tree_at_find (array ts) q = refl
  tree_at_find (object ms) q = refl

  pub members_rise : (n : Cell) (k : Known s n) → rise s.texts (members_at s n) ≡ true
  members_rise n k =
      let m = members_known s n k in
      ∥∥₁_elim m.sound (Bool-set _ _) (λ g. keys_rise m.members _ (members_had s m.members _ m.are) g.1)

  pub known_member : (n : Cell) (k : Known s n) (q : List ℕ) (m : Member)
      → member_with s.texts (enc q) (members_at s n) ≡ Some m → ItemAt s (tree_at_key k.tree q) m.value
  known_member n k q m e =
      let known = members_known s n k in
      subst (λ o. ItemAt s o m.value) (sym (tree_at_find k.tree q)) (member_of q known.members _ m
      (members_had s known.members _ known.are) (∥∥₁_map known.sound (λ g. g.0)) e)

  pub known_no_member : (n : Cell) (k : Known s n) (q : List ℕ) → member_with s.texts (enc q) (members_at s n) ≡ None
      → tree_at_key k.tree q ≡ None
  known_no_member n k q e =
      let known = members_known s n k in
      tree_at_find k.tree q ∙ no_member_with q known.members _ (members_had s known.members _ known.are) e

  -- what was sought in copies of the texts, the members and the key
  pub sought : (n : Cell) (k : Known s n) (q : List ℕ) (xs : Texts) (bs : List ℕ) (es : List Member) → xs ≡ s.texts → bs ≡ enc q → es ≡ members_at s n
      → (o : Option Member) → (rise xs es ≡ true → o ≡ member_with xs bs es)
      → member_with s.texts (enc q) (members_at s n) ≡ o
  sought n k q xs bs es a b c o h =
      sym (λ i. member_with (a i) (b i) (c i)) ∙ sym (h ((λ i. rise (a i) (c i)) ∙ members_rise n k))
