-- Which open containers an arena has, and which tree it has once all are closed.
use Rattle.std.specs.Prelude.{◌≡◌, ℕ, List, [], ◌∷◌, ◌++◌, length}
use Rattle.tinyjson_grammar.specs.Tree.{Tree, items_of, Members, no_members}
use Rattle.tinyjson.specs.Events.{Open, in_array, at_key, at_value}
use Rattle.tinyjson_cells.specs.Cell.{Is, Are, IsText}
use Rattle.tinyjson_cells.specs.Entries.{Entry, put_all, AreEntries}
use Rattle.tinyjson_cells.specs.Texts.{source_bytes}
use Rattle.tinyjson_cells.specs.declared.store.Span.{Span}
use Rattle.tinyjson_cells.specs.declared.store.Cell.{Cell}
use Rattle.tinyjson_cells.specs.declared.store.Store.{Store}
use Rattle.tinyjson_document.specs.declared.arena.Place.{Place}
use Rattle.tinyjson_document.specs.declared.arena.Arena.{Arena}
use Rattle.tinyjson_document.specs.declared.arena.Built.{Built}

-- the members of an object, from its keys and values
pub record Gathers (s : Store) (ms : Members) (ks : List Span) (vs : List Cell) : Type 0 where
  pub entries : List Entry
  pub members : ms ≡ put_all no_members entries
  pub waiting : AreEntries s entries ks vs

-- the members of an object, and its last key, which has no value yet
pub record Awaits (s : Store) (ms : Members) (k : List ℕ) (ks : List Span) (vs : List Cell) : Type 0 where
  pub before : List Span
  pub key : Span
  pub keys : ks ≡ before ++ (key ∷ [])
  pub text : IsText s k key
  pub gathered : Gathers s ms before vs

-- an open container has these keys and values
abbrev pub IsOpen : Store → Open → List Span → List Cell → Type 0
IsOpen s (in_array ts) ks vs = (ks ≡ []) × Are s (items_of ts) vs
IsOpen s (at_key ms) ks vs = Gathers s ms ks vs
IsOpen s (at_value ms k) ks vs = Awaits s ms k ks vs

-- what is pending: the places where the open containers begin, the keys and the values
pub record Waiting : Type 0 where
  pub places : List Place
  pub keys : List Span
  pub values : List Cell

-- the last of what is pending belongs to the innermost container
pub record Splits (all outer : Waiting) (ks : List Span) (vs : List Cell) : Type 0 where
  pub place : Place
  pub places : all.places ≡ outer.places ++ (place ∷ [])
  pub keys : all.keys ≡ outer.keys ++ ks
  pub values : all.values ≡ outer.values ++ vs
  pub first_key : place.keys ≡ length outer.keys
  pub first_value : place.values ≡ length outer.values

abbrev pub HoldsIn : Store → Waiting → List Open → Type 0
HoldsIn s w [] = (w.places ≡ []) × (w.keys ≡ []) × (w.values ≡ [])
HoldsIn s w (o ∷ os) =
    (outer : Waiting) × (ks : List Span) × (vs : List Cell) × Splits w outer ks vs × IsOpen s o ks vs × HoldsIn s outer os

abbrev pub waiting_in : Arena → Waiting
waiting_in a = record { places = a.open.items; keys = a.keys.items; values = a.values.items }

-- the arena has these open containers, the innermost first
abbrev pub Holds : Arena → List Open → Type 0
Holds a os = HoldsIn a.store (waiting_in a) os

-- the arena has this tree, and no container is open
abbrev pub IsTree : Arena → Tree → Type 0
IsTree a t = (n : Cell) × (a.values.items ≡ n ∷ []) × Is a.store t n

-- both arenas are over one text
abbrev pub IsOver : Arena → Arena → Type 0
IsOver start a = source_bytes start.store.texts.source ≡ source_bytes a.store.texts.source

-- With a text in the place of its source, the store has this tree at the root.
pub record IsBuilt (bytes : List ℕ) (b : Built) (t : Tree) : Type 0 where
  pub store : Store
  pub text : source_bytes store.texts.source ≡ bytes
  pub added : store.texts.added.items ≡ b.store.texts.added.items
  pub kept : store.kept.items ≡ b.store.kept.items
  pub items : store.items.items ≡ b.store.items.items
  pub members : store.members.items ≡ b.store.members.items
  pub is : Is store t b.root

-- an arena over the text of the one at the start has these open containers, or this tree
abbrev pub HoldsOver : Arena → Arena → List Open → Type 0
HoldsOver start a os = Holds a os × IsOver start a

abbrev pub IsTreeOver : Arena → Arena → Tree → Type 0
IsTreeOver start a t = IsTree a t × IsOver start a
