-- What is known of a place in a document, by its cell.
use Rattle.std.proofs.Common.{◌≡◌, ℕ, zero, suc, Bool, true, false, List, [], ◌∷◌, Option, Some, None, option_map, slice_get}
use Rattle.std.proofs.Common.{◌++◌, inl, inr, length, refl, sym, ◌∙◌, ap, subst}
use mathlib.Core.Logic.{∥∥₁_map}
use Rattle.std.specs.Str.{chars}
use Rattle.tinyjson.specs.Access.{is_array, is_boolean, is_null, is_number, is_object, is_string}
use Rattle.tinyjson.specs.Index.{item_count, nth, tree_at}
use Rattle.tinyjson_number.specs.Decimal.{Decimal}
use Rattle.tinyjson_grammar.specs.Kind.{kind_of}
use Rattle.tinyjson_grammar.specs.declared.kind.JsonKind.{JsonKind}
use Rattle.tinyjson_grammar.specs.declared.kind.JsonKind.TheVariants as kind
use Rattle.tinyjson_grammar.specs.Soundness.{IsTree}
use Rattle.tinyjson_grammar.specs.Tree.{Tree, null, boolean, number, string, array, object}
use Rattle.tinyjson_grammar.specs.Tree.{Items, no_items, item, Members, no_members, member}
use Rattle.tinyjson_cells.specs.declared.store.Span.{Span}
use Rattle.tinyjson_cells.specs.declared.store.Cell.{Cell}
use Rattle.tinyjson_cells.specs.declared.store.Cell.TheVariants as node
use Rattle.tinyjson_cells.specs.declared.store.Member.{Member}
use Rattle.tinyjson_cells.specs.declared.store.Store.{Store}
use Rattle.tinyjson_cells.specs.Cell.{IsText, IsKeptAt, IsShort, IsNumber, IsBytes, Is, Are, AreMembers}
use Rattle.tinyjson_document.specs.Known.{Known, KnownItems, KnownMembers, kind_in, kind_is, known_are, known_members}
use Rattle.tinyjson_document.specs.Known.{known_one, items_one, members_same}
use Rattle.tinyjson_cells.specs.Texts.{part, part_of}
use Rattle.tinyjson_document.specs.Parts.{boolean_in, number_in, string_in, items_in, members_in, member_count, size}
use Rattle.tinyjson_document.proofs.Had.{is_had, are_had, members_had}
use Rattle.tinyjson_cells.proofs.Callers.{run_part, text_part}

-- ---- what a cell gives

abbrev pub boolean_at : Cell → Option Bool
boolean_at (node.Boolean b) = Some b
boolean_at _ = None

abbrev pub string_at : Store → Cell → Option (List ℕ)
string_at s (node.String p) = Some (chars (part_of s.texts p))
string_at s _ = None

abbrev pub cells_at : Store → Cell → List Cell
cells_at s (node.Array p) = part s.items.items p
cells_at s _ = []

abbrev pub members_at : Store → Cell → List Member
members_at s (node.Object p) = part s.members.items p
members_at s _ = []

abbrev pub size_at : Store → Cell → ℕ
size_at s (node.Array p) = length (part s.items.items p)
size_at s (node.Object p) = length (part s.members.items p)
size_at s _ = 0

abbrev pub is_string_cell : Cell → Bool
is_string_cell (node.String p) = true
is_string_cell _ = false

abbrev pub is_number_cell : Cell → Bool
is_number_cell (node.Short p) = true
is_number_cell (node.Kept i) = true
is_number_cell _ = false

module _ (s : Store) where
  boolean_is : (t : Tree) (n : Cell) → Is s t n → boolean_at n ≡ boolean_in t
  boolean_is null n h = ap boolean_at h
  boolean_is (boolean b) n h = ap boolean_at h
  boolean_is (number d) n (inl h) = ap boolean_at h.1
  boolean_is (number d) n (inr h) = ap boolean_at h.1
  boolean_is (string cs) n h = ap boolean_at h.1
  boolean_is (array ts) n h = ap boolean_at h.1
  boolean_is (object ms) n h = ap boolean_at h.1

  pub kept_there : (d : Decimal) (i : ℕ) → IsKeptAt s d i → option_map (λ c. c.decimal) (slice_get s.kept.items i) ≡ Some d
  kept_there d i h =
      ap (λ j. option_map (λ c. c.decimal) (slice_get s.kept.items j)) h.place
      ∙ ap (λ z. option_map (λ c. c.decimal) (slice_get z (length h.front))) h.whole ∙ at h.front ∙ ap Some h.decimal
    where
      at : (xs : List _) → option_map (λ c. c.decimal) (slice_get (xs ++ h.here ∷ h.back) (length xs)) ≡ Some h.here.decimal
      at [] = refl
      at (x ∷ xs) = at xs

  string_is : (t : Tree) (n : Cell) → Is s t n → string_at s n ≡ string_in t
  string_is null n h = ap (string_at s) h
  string_is (boolean b) n h = ap (string_at s) h
  string_is (number d) n (inl h) = ap (string_at s) h.1
  string_is (number d) n (inr h) = ap (string_at s) h.1
  string_is (string cs) n h = ap (string_at s) h.1 ∙ ap Some (sym (text_part s cs h.0 h.2).1)
  string_is (array ts) n h = ap (string_at s) h.1
  string_is (object ms) n h = ap (string_at s) h.1

  pub cells_are : (t : Tree) (n : Cell) → Is s t n → Are s (items_in t) (cells_at s n)
  cells_are null n h = subst (λ m. Are s no_items (cells_at s m)) (sym h) tt
  cells_are (boolean b) n h = subst (λ m. Are s no_items (cells_at s m)) (sym h) tt
  cells_are (number d) n (inl h) = subst (λ m. Are s no_items (cells_at s m)) (sym h.1) tt
  cells_are (number d) n (inr h) = subst (λ m. Are s no_items (cells_at s m)) (sym h.1) tt
  cells_are (string cs) n h = subst (λ m. Are s no_items (cells_at s m)) (sym h.1) tt
  cells_are (array ts) n h = subst (λ m. Are s ts (cells_at s m)) (sym h.1) (subst (Are s ts) (sym (run_part _ h.0 h.2 h.3)) h.4)
  cells_are (object ms) n h = subst (λ m. Are s no_items (cells_at s m)) (sym h.1) tt

  pub members_are : (t : Tree) (n : Cell) → Is s t n → AreMembers s (members_in t) (members_at s n)
  members_are null n h = subst (λ m. AreMembers s no_members (members_at s m)) (sym h) tt
  members_are (boolean b) n h = subst (λ m. AreMembers s no_members (members_at s m)) (sym h) tt
  members_are (number d) n (inl h) = subst (λ m. AreMembers s no_members (members_at s m)) (sym h.1) tt
  members_are (number d) n (inr h) = subst (λ m. AreMembers s no_members (members_at s m)) (sym h.1) tt
  members_are (string cs) n h = subst (λ m. AreMembers s no_members (members_at s m)) (sym h.1) tt
  members_are (array ts) n h = subst (λ m. AreMembers s no_members (members_at s m)) (sym h.1) tt
  members_are (object ms) n h = subst (λ m. AreMembers s ms (members_at s m)) (sym h.1)
      (subst (AreMembers s ms) (sym (run_part _ h.0 h.2 h.3)) h.4)

  cell_count : (ts : Items) (ns : List Cell) → Are s ts ns → length ns ≡ item_count ts
  cell_count no_items [] h = refl
  cell_count no_items (n ∷ ns) h = absurd h
  cell_count (item t ts) [] h = absurd h
  cell_count (item t ts) (n ∷ ns) h = ap suc (cell_count ts ns h.1)

  pair_count : (ms : Members) (es : List Member) → AreMembers s ms es → length es ≡ member_count ms
  pair_count no_members [] h = refl
  pair_count no_members (e ∷ es) h = absurd h
  pair_count (member k t ms) [] h = absurd h
  pair_count (member k t ms) (e ∷ es) h = ap suc (pair_count ms es h.2)

  size_is : (t : Tree) (n : Cell) → Is s t n → size_at s n ≡ size t
  size_is null n h = ap (size_at s) h
  size_is (boolean b) n h = ap (size_at s) h
  size_is (number d) n (inl h) = ap (size_at s) h.1
  size_is (number d) n (inr h) = ap (size_at s) h.1
  size_is (string cs) n h = ap (size_at s) h.1
  size_is (array ts) n h = ap (size_at s) h.1 ∙ ap length (run_part _ h.0 h.2 h.3) ∙ cell_count ts h.2 h.4
  size_is (object ms) n h = ap (size_at s) h.1 ∙ ap length (run_part _ h.0 h.2 h.3) ∙ pair_count ms h.2 h.4

  -- ---- what is known

  pub known_had : (n : Cell) (k : Known s n) → Is s k.tree n
  known_had n k = is_had s k.tree n k.is

  pub kind_known : (n : Cell) (k : Known s n) → kind_in n ≡ kind_of k.tree
  kind_known n k = kind_is s k.tree n (known_had n k)

  pub boolean_known : (n : Cell) (k : Known s n) → boolean_at n ≡ boolean_in k.tree
  boolean_known n k = boolean_is k.tree n (known_had n k)

  number_of : (t : Tree) (n : Cell) (o : Option Decimal) → Is s t n → ((d : Decimal) → IsNumber s d n → o ≡ Some d)
      → kind_in n ≡ kind.Number → o ≡ number_in t
  number_of (number d) n o h f k = f d h
  number_of t n o h f k = let e : kind_of t ≡ kind.Number = sym (kind_is s t n h) ∙ k in absurd cc

  short_of : (d : Decimal) (p : Span) → IsNumber s d (node.Short p) → IsShort s d p
  short_of d p (inl h) = let e = h.1 in let same : h.0 ≡ p = cc in subst (IsShort s d) same h.2
  short_of d p (inr h) = let e = h.1 in absurd cc

  kept_of : (d : Decimal) (i : ℕ) → IsNumber s d (node.Kept i) → IsKeptAt s d i
  kept_of d i (inl h) = let e = h.1 in absurd cc
  kept_of d i (inr h) = let e = h.1 in let same : h.0 ≡ i = cc in subst (IsKeptAt s d) same h.2

  pub short_known : (n : Cell) (k : Known s n) (p : Span) (o : Option Decimal) → n ≡ node.Short p
      → ((d : Decimal) → IsShort s d p → o ≡ Some d) → o ≡ number_in k.tree
  short_known n k p o e f =
      number_of k.tree n o (known_had n k) (λ d h. f d (short_of d p (subst (IsNumber s d) e h))) (ap kind_in e)

  pub kept_known : (n : Cell) (k : Known s n) (i : ℕ) (o : Option Decimal) → n ≡ node.Kept i
      → ((d : Decimal) → IsKeptAt s d i → o ≡ Some d) → o ≡ number_in k.tree
  kept_known n k i o e f =
      number_of k.tree n o (known_had n k) (λ d h. f d (kept_of d i (subst (IsNumber s d) e h))) (ap kind_in e)

  pub string_known : (n : Cell) (k : Known s n) → string_at s n ≡ string_in k.tree
  string_known n k = string_is k.tree n (known_had n k)

  pub size_known : (n : Cell) (k : Known s n) → size_at s n ≡ size k.tree
  size_known n k = size_is k.tree n (known_had n k)

  -- the bytes of a string are its characters in UTF-8
  string_bytes_is : (t : Tree) (p : Span) → Is s t (node.String p) → (cs : List ℕ) × IsBytes cs (part_of s.texts p)
  string_bytes_is null p h = absurd cc
  string_bytes_is (boolean b) p h = absurd cc
  string_bytes_is (number d) p (inl h) = let e = h.1 in absurd cc
  string_bytes_is (number d) p (inr h) = let e = h.1 in absurd cc
  string_bytes_is (string cs) p h = let e = h.1 in let same : h.0 ≡ p = cc in
      (cs, subst (λ q. IsBytes cs (part_of s.texts q)) same (text_part s cs h.0 h.2))
  string_bytes_is (array ts) p h = let e = h.1 in absurd cc
  string_bytes_is (object ms) p h = let e = h.1 in absurd cc

  pub string_bytes_known : (p : Span) (k : Known s (node.String p)) → (cs : List ℕ) × IsBytes cs (part_of s.texts p)
  string_bytes_known p k = string_bytes_is k.tree p (known_had _ k)

  pub items_sound : (t : Tree) → IsTree t → IsTree (array (items_in t))
  items_sound null h = tt
  items_sound (boolean b) h = tt
  items_sound (number d) h = tt
  items_sound (string cs) h = tt
  items_sound (array ts) h = h
  items_sound (object ms) h = tt

  pub members_sound : (t : Tree) → IsTree t → IsTree (object (members_in t))
  members_sound null h = (tt, tt)
  members_sound (boolean b) h = (tt, tt)
  members_sound (number d) h = (tt, tt)
  members_sound (string cs) h = (tt, tt)
  members_sound (array ts) h = (tt, tt)
  members_sound (object ms) h = h

  abbrev pub items_known : (n : Cell) (k : Known s n) → KnownItems s (cells_at s n)
  items_known n k = record {
    items = items_in k.tree;
    are = ∣ cells_are k.tree n (known_had n k) ∣₁;
    sound = ∥∥₁_map k.sound (items_sound k.tree);
  }

  abbrev pub members_known : (n : Cell) (k : Known s n) → KnownMembers s (members_at s n)
  members_known n k = record {
    members = members_in k.tree;
    are = ∣ members_are k.tree n (known_had n k) ∣₁;
    sound = ∥∥₁_map k.sound (members_sound k.tree);
  }

  -- ---- one after the other

  pub record NextItem (ts : Items) (n : Cell) (ns : List Cell) : Type 0 where
    pub here : Known s n
    pub later : KnownItems s ns
    pub joined : ts ≡ item here.tree later.items

  next_item_of : (ts : Items) (n : Cell) (ns : List Cell) → Are s ts (n ∷ ns) → ∥ IsTree (array ts) ∥₁ → NextItem ts n ns
  next_item_of no_items n ns h w = absurd h
  next_item_of (item t ts) n ns h w = record {
    here = record { tree = t; is = ∣ h.0 ∣₁; sound = ∥∥₁_map w (λ g. g.0) };
    later = record { items = ts; are = ∣ h.1 ∣₁; sound = ∥∥₁_map w (λ g. g.1) };
    joined = refl;
  }

  pub next_item : (n : Cell) (ns : List Cell) (k : KnownItems s (n ∷ ns)) → NextItem k.items n ns
  next_item n ns k = next_item_of k.items n ns (are_had s k.items (n ∷ ns) k.are) k.sound

  no_item_of : (ts : Items) → Are s ts [] → ts ≡ no_items
  no_item_of no_items h = refl
  no_item_of (item t ts) h = absurd h

  pub no_item : (k : KnownItems s []) → k.items ≡ no_items
  no_item k = no_item_of k.items (are_had s k.items [] k.are)

  pub record NextMember (ms : Members) (e : Member) (es : List Member) : Type 0 where
    pub key : List ℕ
    pub text : IsText s key e.key
    pub here : Known s e.value
    pub later : KnownMembers s es
    pub joined : ms ≡ member key here.tree later.members

  next_member_of : (ms : Members) (e : Member) (es : List Member) → AreMembers s ms (e ∷ es) → ∥ IsTree (object ms) ∥₁ → NextMember ms e es
  next_member_of no_members e es h w = absurd h
  next_member_of (member k t ms) e es h w = record {
    key = k;
    text = h.0;
    here = record { tree = t; is = ∣ h.1 ∣₁; sound = ∥∥₁_map w (λ g. g.0.1) };
    later = record { members = ms; are = ∣ h.2 ∣₁; sound = ∥∥₁_map w (λ g. (g.0.2, g.1.1)) };
    joined = refl;
  }

  pub next_member : (e : Member) (es : List Member) (k : KnownMembers s (e ∷ es)) → NextMember k.members e es
  next_member e es k = next_member_of k.members e es (members_had s k.members (e ∷ es) k.are) k.sound

  no_member_of : (ms : Members) → AreMembers s ms [] → ms ≡ no_members
  no_member_of no_members h = refl
  no_member_of (member k t ms) h = absurd h

  pub no_member : (k : KnownMembers s []) → k.members ≡ no_members
  no_member k = no_member_of k.members (members_had s k.members [] k.are)

  -- ---- the item at an index

  tree_at_nth : (t : Tree) (i : ℕ) → tree_at t i ≡ nth (items_in t) i
  tree_at_nth null i = refl
  tree_at_nth (boolean b) i = refl
  tree_at_nth (number d) i = refl
  tree_at_nth (string cs) i = refl
  tree_at_nth (array ts) i = refl
  tree_at_nth (object ms) i = refl

  pub record ItemAt (o : Option Tree) (c : Cell) : Type 0 where
    pub here : Known s c
    pub there : o ≡ Some here.tree

  item_of : (ts : Items) (ns : List Cell) (i : ℕ) (c : Cell) → Are s ts ns → ∥ IsTree (array ts) ∥₁ → slice_get ns i ≡ Some c
      → ItemAt (nth ts i) c
  item_of no_items [] i c h w e = absurd cc
  item_of no_items (n ∷ ns) i c h w e = absurd h
  item_of (item t ts) [] i c h w e = absurd cc
  item_of (item t ts) (n ∷ ns) zero c h w e =
      let same : n ≡ c = cc in
      record { here = record { tree = t; is = ∣ subst (Is s t) same h.0 ∣₁; sound = ∥∥₁_map w (λ g. g.0) }; there = refl }
  item_of (item t ts) (n ∷ ns) (suc i) c h w e = item_of ts ns i c h.1 (∥∥₁_map w (λ g. g.1)) e

  no_item_at : (ts : Items) (ns : List Cell) (i : ℕ) → Are s ts ns → slice_get ns i ≡ None → nth ts i ≡ None
  no_item_at no_items ns i h e = refl
  no_item_at (item t ts) [] i h e = absurd h
  no_item_at (item t ts) (n ∷ ns) zero h e = absurd cc
  no_item_at (item t ts) (n ∷ ns) (suc i) h e = no_item_at ts ns i h.1 e

  pub known_item : (n : Cell) (k : Known s n) (i : ℕ) (c : Cell) → slice_get (cells_at s n) i ≡ Some c → ItemAt (tree_at k.tree i) c
  known_item n k i c e =
      subst (λ o. ItemAt o c) (sym (tree_at_nth k.tree i)) (item_of (items_in k.tree) _ i c (cells_are k.tree n (known_had n k))
      (∥∥₁_map k.sound (items_sound k.tree)) e)

  pub known_no_item : (n : Cell) (k : Known s n) (i : ℕ) → slice_get (cells_at s n) i ≡ None → tree_at k.tree i ≡ None
  known_no_item n k i e = tree_at_nth k.tree i ∙ no_item_at (items_in k.tree) _ i (cells_are k.tree n (known_had n k)) e

  -- ---- other kinds

  no_number : (t : Tree) (n : Cell) → Is s t n → ((p : Span) → n ≡ node.Short p → ⊥) → ((i : ℕ) → n ≡ node.Kept i → ⊥)
      → None ≡ number_in t
  no_number (number d) n (inl h) f g = absurd (f h.0 h.1)
  no_number (number d) n (inr h) f g = absurd (g h.0 h.1)
  no_number null n h f g = refl
  no_number (boolean b) n h f g = refl
  no_number (string cs) n h f g = refl
  no_number (array ts) n h f g = refl
  no_number (object ms) n h f g = refl

  pub number_not : (n : Cell) (k : Known s n) → ((p : Span) → n ≡ node.Short p → ⊥) → ((i : ℕ) → n ≡ node.Kept i → ⊥)
      → None ≡ number_in k.tree
  number_not n k f g = no_number k.tree n (known_had n k) f g

  pub string_not : (n : Cell) → ((p : Span) → n ≡ node.String p → ⊥) → string_at s n ≡ None
  string_not (node.String p) h = absurd (h p refl)
  string_not _ h = refl

  pub cells_not : (n : Cell) → ((p : Span) → n ≡ node.Array p → ⊥) → cells_at s n ≡ []
  cells_not (node.Array p) h = absurd (h p refl)
  cells_not _ h = refl

  pub members_not : (n : Cell) → ((p : Span) → n ≡ node.Object p → ⊥) → members_at s n ≡ []
  members_not (node.Object p) h = absurd (h p refl)
  members_not _ h = refl

  pub size_not : (n : Cell) → ((p : Span) → n ≡ node.Array p → ⊥) → ((p : Span) → n ≡ node.Object p → ⊥) → size_at s n ≡ 0
  size_not (node.Array p) h k = absurd (h p refl)
  size_not (node.Object p) h k = absurd (k p refl)
  size_not _ h k = refl

  -- ---- the items and the members, seen from the tree

  pub items_left_known : (n : Cell) (k : Known s n) (ns : List Cell) → ns ≡ cells_at s n → (l : KnownItems s ns) → l.items ≡ items_in k.tree
  items_left_known n k ns e l =
      known_are s ns l (items_in k.tree) (subst (Are s (items_in k.tree)) (sym e) (cells_are k.tree n (known_had n k)))

  pub members_left_known : (n : Cell) (k : Known s n) (es : List Member) → es ≡ members_at s n → (l : KnownMembers s es)
      → l.members ≡ members_in k.tree
  members_left_known n k es e l =
      known_members s es l (members_in k.tree) (subst (AreMembers s (members_in k.tree)) (sym e) (members_are k.tree n (known_had n k)))

pub map_twice : {A B C : Type 0} (f : B → C) (g : A → B) (o : Option A) → option_map (λ x. f (g x)) o ≡ option_map f (option_map g o)
map_twice f g None = refl
map_twice f g (Some x) = refl

nil_from : {A : Type 0} (xs : List A) → length xs ≡ 0 → xs ≡ []
nil_from [] h = refl
nil_from (x ∷ xs) h = absurd cc

module _ (s : Store) where
  -- ---- what an iterator gives

  pub no_item_left : (ns : List Cell) (k : KnownItems s ns) → length ns ≡ 0 → k.items ≡ no_items
  no_item_left ns k h = no_item_of s k.items (subst (Are s k.items) (nil_from ns h) (are_had s k.items ns k.are))

  pub item_joins : (ns : List Cell) (n : Cell) (rest : List Cell) → ns ≡ n ∷ rest → (k : KnownItems s ns) (l : Known s n)
      (m : KnownItems s rest) → k.items ≡ item l.tree m.items
  item_joins ns n rest e k l m =
      let next = next_item_of s k.items n rest (subst (Are s k.items) e (are_had s k.items ns k.are)) k.sound in
      next.joined ∙ (λ i. item (known_one s n next.here l i) (items_one s rest next.later m i))

  pub no_member_left : (es : List Member) (k : KnownMembers s es) → length es ≡ 0 → k.members ≡ no_members
  no_member_left es k h = no_member_of s k.members (subst (AreMembers s k.members) (nil_from es h) (members_had s k.members es k.are))

  pub first_member : (es : List Member) (e : Member) (rest : List Member) → es ≡ e ∷ rest → (k : KnownMembers s es)
      → NextMember s k.members e rest
  first_member es e rest h k =
      next_member_of s k.members e rest (subst (AreMembers s k.members) h (members_had s k.members es k.are)) k.sound

  -- the text of a key is there, and its characters are the tree's
  pub key_text : (es : List Member) (e : Member) (rest : List Member) (h : es ≡ e ∷ rest) (k : KnownMembers s es)
      → IsBytes (first_member es e rest h k).key (part_of s.texts e.key)
  key_text es e rest h k = text_part s _ e.key (first_member es e rest h k).text

  pub member_joins : (es : List Member) (e : Member) (rest : List Member) (h : es ≡ e ∷ rest) (k : KnownMembers s es) (cs : List ℕ)
      → (first_member es e rest h k).key ≡ cs → (l : Known s e.value) (m : KnownMembers s rest) → k.members ≡ member cs l.tree m.members
  member_joins es e rest h k cs c l m =
      let next = first_member es e rest h k in
      next.joined ∙ (λ i. member (c i) (known_one s e.value next.here l i) (members_same s rest next.later m i))

  -- ---- tests of kinds

  string_kind : (t : Tree) (n : Cell) → Is s t n → is_string_cell n ≡ is_string t
  string_kind null n h = ap is_string_cell h
  string_kind (boolean b) n h = ap is_string_cell h
  string_kind (number d) n (inl h) = ap is_string_cell h.1
  string_kind (number d) n (inr h) = ap is_string_cell h.1
  string_kind (string cs) n h = ap is_string_cell h.1
  string_kind (array ts) n h = ap is_string_cell h.1
  string_kind (object ms) n h = ap is_string_cell h.1

  number_kind : (t : Tree) (n : Cell) → Is s t n → is_number_cell n ≡ is_number t
  number_kind null n h = ap is_number_cell h
  number_kind (boolean b) n h = ap is_number_cell h
  number_kind (number d) n (inl h) = ap is_number_cell h.1
  number_kind (number d) n (inr h) = ap is_number_cell h.1
  number_kind (string cs) n h = ap is_number_cell h.1
  number_kind (array ts) n h = ap is_number_cell h.1
  number_kind (object ms) n h = ap is_number_cell h.1

  pub string_tested : (n : Cell) (k : Known s n) → is_string_cell n ≡ is_string k.tree
  string_tested n k = string_kind k.tree n (known_had s n k)

  pub number_tested : (n : Cell) (k : Known s n) → is_number_cell n ≡ is_number k.tree
  number_tested n k = number_kind k.tree n (known_had s n k)

  pub no_string_cell : (n : Cell) → ((p : Span) → n ≡ node.String p → ⊥) → is_string_cell n ≡ false
  no_string_cell (node.String p) h = absurd (h p refl)
  no_string_cell _ h = refl

  pub no_number_cell : (n : Cell) → ((p : Span) → n ≡ node.Short p → ⊥) → ((i : ℕ) → n ≡ node.Kept i → ⊥) → is_number_cell n ≡ false
  no_number_cell (node.Short p) h k = absurd (h p refl)
  no_number_cell (node.Kept i) h k = absurd (k i refl)
  no_number_cell _ h k = refl

-- ---- whether a cell is of a kind

abbrev null_kind : JsonKind → Bool
null_kind kind.Null = true
null_kind _ = false

abbrev boolean_kind : JsonKind → Bool
boolean_kind kind.Boolean = true
boolean_kind _ = false

abbrev array_kind : JsonKind → Bool
array_kind kind.Array = true
array_kind _ = false

abbrev object_kind : JsonKind → Bool
object_kind kind.Object = true
object_kind _ = false

-- the four tests of a tree go by its kind
by_kind : (t : Tree) → (null_kind (kind_of t) ≡ is_null t) × (boolean_kind (kind_of t) ≡ is_boolean t)
    × (array_kind (kind_of t) ≡ is_array t) × (object_kind (kind_of t) ≡ is_object t)
by_kind null = (refl, refl, refl, refl)
by_kind (boolean b) = (refl, refl, refl, refl)
by_kind (number d) = (refl, refl, refl, refl)
by_kind (string cs) = (refl, refl, refl, refl)
by_kind (array ts) = (refl, refl, refl, refl)
by_kind (object ms) = (refl, refl, refl, refl)

module _ (s : Store) where
  null_tested : (n : Cell) (k : Known s n) → null_kind (kind_in n) ≡ is_null k.tree
  null_tested n k = ap null_kind (kind_known s n k) ∙ (by_kind k.tree).0

  boolean_tested : (n : Cell) (k : Known s n) → boolean_kind (kind_in n) ≡ is_boolean k.tree
  boolean_tested n k = ap boolean_kind (kind_known s n k) ∙ (by_kind k.tree).1

  array_tested : (n : Cell) (k : Known s n) → array_kind (kind_in n) ≡ is_array k.tree
  array_tested n k = ap array_kind (kind_known s n k) ∙ (by_kind k.tree).2

  object_tested : (n : Cell) (k : Known s n) → object_kind (kind_in n) ≡ is_object k.tree
  object_tested n k = ap object_kind (kind_known s n k) ∙ (by_kind k.tree).3

  pub null_there : (n : Cell) (k : Known s n) → n ≡ node.Null → true ≡ is_null k.tree
  null_there n k e = ap (λ m. null_kind (kind_in m)) (sym e) ∙ null_tested n k

  pub null_not : (n : Cell) (k : Known s n) → (n ≡ node.Null → ⊥) → false ≡ is_null k.tree
  null_not n k h = sym (by n h) ∙ null_tested n k
    where
      by : (n : Cell) → (n ≡ node.Null → ⊥) → null_kind (kind_in n) ≡ false
      by node.Null h = absurd (h refl)
      by _ h = refl

  pub boolean_there : (n : Cell) (k : Known s n) (b : Bool) → n ≡ node.Boolean b → true ≡ is_boolean k.tree
  boolean_there n k b e = ap (λ m. boolean_kind (kind_in m)) (sym e) ∙ boolean_tested n k

  pub boolean_not : (n : Cell) (k : Known s n) → ((b : Bool) → n ≡ node.Boolean b → ⊥) → false ≡ is_boolean k.tree
  boolean_not n k h = sym (by n h) ∙ boolean_tested n k
    where
      by : (n : Cell) → ((b : Bool) → n ≡ node.Boolean b → ⊥) → boolean_kind (kind_in n) ≡ false
      by (node.Boolean b) h = absurd (h b refl)
      by _ h = refl

  pub array_there : (n : Cell) (k : Known s n) (p : Span) → n ≡ node.Array p → true ≡ is_array k.tree
  array_there n k p e = ap (λ m. array_kind (kind_in m)) (sym e) ∙ array_tested n k

  pub array_not : (n : Cell) (k : Known s n) → ((p : Span) → n ≡ node.Array p → ⊥) → false ≡ is_array k.tree
  array_not n k h = sym (by n h) ∙ array_tested n k
    where
      by : (n : Cell) → ((p : Span) → n ≡ node.Array p → ⊥) → array_kind (kind_in n) ≡ false
      by (node.Array p) h = absurd (h p refl)
      by _ h = refl

  pub object_there : (n : Cell) (k : Known s n) (p : Span) → n ≡ node.Object p → true ≡ is_object k.tree
  object_there n k p e = ap (λ m. object_kind (kind_in m)) (sym e) ∙ object_tested n k

  pub object_not : (n : Cell) (k : Known s n) → ((p : Span) → n ≡ node.Object p → ⊥) → false ≡ is_object k.tree
  object_not n k h = sym (by n h) ∙ object_tested n k
    where
      by : (n : Cell) → ((p : Span) → n ≡ node.Object p → ⊥) → object_kind (kind_in n) ≡ false
      by (node.Object p) h = absurd (h p refl)
      by _ h = refl

  pub boolean_none : (n : Cell) (k : Known s n) → ((b : Bool) → n ≡ node.Boolean b → ⊥) → None ≡ boolean_in k.tree
  boolean_none n k h = sym (by n h) ∙ boolean_known s n k
    where
      by : (n : Cell) → ((b : Bool) → n ≡ node.Boolean b → ⊥) → boolean_at n ≡ None
      by (node.Boolean b) h = absurd (h b refl)
      by _ h = refl
