-- Which tree a cell stands for, by recursion on the tree. For private contracts.
use Rattle.std.specs.Prelude.{◌≡◌, ◌≤◌, ◌⊎◌, ℕ, ◌+◌, List, [], ◌∷◌, ◌++◌, length, ⊤}
use Rattle.std.specs.Str.{IsUtf8, chars}
use Rattle.tinyjson_number.specs.Canonical.{IsDecimal}
use Rattle.tinyjson_number.specs.Decimal.{Decimal}
use Rattle.tinyjson_number.specs.Number.{Canonical}
use Rattle.tinyjson_number.specs.Text.{decimal_text}
use Rattle.tinyjson_grammar.specs.Tree.{Tree, null, boolean, number, string, array, object}
use Rattle.tinyjson_grammar.specs.Tree.{Items, no_items, item, Members, no_members, member}
use Rattle.tinyjson_cells.specs.Texts.{part_of, IsWithin, TextsGrow}
use Rattle.tinyjson_cells.specs.declared.store.Span.{Span}
use Rattle.tinyjson_cells.specs.declared.store.Cell.{Cell}
use Rattle.tinyjson_cells.specs.declared.store.Cell.TheVariants as node
use Rattle.tinyjson_cells.specs.declared.store.Member.{Member}
use Rattle.tinyjson_cells.specs.declared.store.Store.{Store}

-- the elements in the range
pub record IsRun {A : Type 0} (xs : List A) (s : Span) (ys : List A) : Type 0 where
  pub front : List A
  pub back : List A
  pub whole : xs ≡ front ++ (ys ++ back)
  pub from : s.from ≡ length front
  pub to : s.to ≡ length front + length ys

-- the bytes are these characters in UTF-8
abbrev pub IsBytes : List ℕ → List ℕ → Type 0
IsBytes cs bytes = IsUtf8 bytes × (cs ≡ chars bytes)

-- the range has these characters in UTF-8
pub record IsText (s : Store) (cs : List ℕ) (p : Span) : Type 0 where
  pub within : IsWithin s.texts p
  pub utf8 : IsUtf8 (part_of s.texts p)
  pub characters : cs ≡ chars (part_of s.texts p)

-- the number that is kept at the index
pub record IsKeptAt (s : Store) (d : Decimal) (n : ℕ) : Type 0 where
  pub front : List Canonical
  pub here : Canonical
  pub back : List Canonical
  pub whole : s.kept.items ≡ front ++ (here ∷ back)
  pub place : n ≡ length front
  pub decimal : here.decimal ≡ d

-- the range has the text of the number, which is short
pub record IsShort (s : Store) (d : Decimal) (p : Span) : Type 0 where
  pub within : IsWithin s.texts p
  pub text : part_of s.texts p ≡ decimal_text d
  pub few : length (decimal_text d) ≤ 24
  pub canonical : IsDecimal d

-- the cell of a number, short or kept
abbrev pub IsNumber : Store → Decimal → Cell → Type 0
IsNumber s d n = ((p : Span) × (n ≡ node.Short p) × IsShort s d p) ⊎ ((i : ℕ) × (n ≡ node.Kept i) × IsKeptAt s d i)

abbrev mutual
  pub Is : Store → Tree → Cell → Type 0
  Is s null n = n ≡ node.Null
  Is s (boolean b) n = n ≡ node.Boolean b
  Is s (number d) n = IsNumber s d n
  Is s (string cs) n = (p : Span) × (n ≡ node.String p) × IsText s cs p
  Is s (array ts) n = (p : Span) × (n ≡ node.Array p) × (ns : List Cell) × IsRun s.items.items p ns × Are s ts ns
  Is s (object ms) n = (p : Span) × (n ≡ node.Object p) × (es : List Member) × IsRun s.members.items p es × AreMembers s ms es

  pub Are : Store → Items → List Cell → Type 0
  Are s no_items [] = ⊤
  Are s no_items (n ∷ ns) = ⊥
  Are s (item t ts) [] = ⊥
  Are s (item t ts) (n ∷ ns) = Is s t n × Are s ts ns

  pub AreMembers : Store → Members → List Member → Type 0
  AreMembers s no_members [] = ⊤
  AreMembers s no_members (e ∷ es) = ⊥
  AreMembers s (member k t ms) [] = ⊥
  AreMembers s (member k t ms) (e ∷ es) = IsText s k e.key × Is s t e.value × AreMembers s ms es

-- the second list begins with the first one
abbrev pub Extends : {A : Type 0} → List A → List A → Type 0
Extends {A} xs ys = (more : List A) × (ys ≡ xs ++ more)

pub record Grows (old new : Store) : Type 0 where
  pub texts : TextsGrow old.texts new.texts
  pub kept : Extends old.kept.items new.kept.items
  pub items : Extends old.items.items new.items.items
  pub members : Extends old.members.items new.members.items
