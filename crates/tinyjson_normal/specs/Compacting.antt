-- Which open containers compact text has that is being built.
use Rattle.std.specs.Prelude.{◌≡◌, ℕ, ◌+◌, List, [], ◌∷◌, ◌++◌, length, encode_utf8_all, ⊤}
use Rattle.tinyjson.specs.Events.{Open, in_array, at_key, at_value}
use Rattle.tinyjson_grammar.specs.Characters.{begin_array, begin_object, name_separator, value_separator}
use Rattle.tinyjson_grammar.specs.Text.{compact, quoted}
use Rattle.tinyjson_grammar.specs.Tree.{Tree, Members, no_members, member}
use Rattle.tinyjson_cells.specs.Entries.{Entry, put_all}
use Rattle.tinyjson_cells.specs.Cell.{IsText}
use Rattle.tinyjson_cells.specs.Order.{part}
use Rattle.tinyjson_normal.specs.declared.compact.Begun.{Begun}
use Rattle.tinyjson_normal.specs.declared.compact.Compact.{Compact}
use Rattle.tinyjson_normal.specs.declared.compact.Start.{Start}
use Rattle.tinyjson_cells.specs.declared.store.Member.{Member}
use Rattle.tinyjson_cells.specs.declared.store.Cell.{Cell}
use Rattle.tinyjson_cells.specs.declared.store.Cell.TheVariants as node
use Rattle.tinyjson_cells.specs.declared.store.Store.{Store}

-- ---- each complete value has a comma after it

abbrev pub value_bytes : Tree → List ℕ
value_bytes t = encode_utf8_all (compact t) ++ value_separator ∷ []

abbrev pub items_bytes : List Tree → List ℕ
items_bytes [] = []
items_bytes (t ∷ ts) = value_bytes t ++ items_bytes ts

abbrev pub key_bytes : List ℕ → List ℕ
key_bytes k = encode_utf8_all (quoted k) ++ name_separator ∷ []

abbrev pub entry_bytes : List ℕ → Tree → List ℕ
entry_bytes k t = key_bytes k ++ value_bytes t

abbrev pub entries_bytes : List Entry → List ℕ
entries_bytes [] = []
entries_bytes (e ∷ es) = entry_bytes e.0 e.1 ++ entries_bytes es

abbrev pub members_bytes : Members → List ℕ
members_bytes no_members = []
members_bytes (member k t ms) = entry_bytes k t ++ members_bytes ms

-- ---- the members of an open object

-- where the next one begins, or where the text ends
abbrev pub next_from : List Begun → ℕ → ℕ
next_from [] end = end
next_from (b ∷ bs) end = b.from

-- the members, each with its range in the text
abbrev pub members_of : List Begun → ℕ → List Member
members_of [] end = []
members_of (b ∷ bs) end =
    record { key = b.key; value = node.String (record { from = b.from; to = next_from bs end }) } ∷ members_of bs end

-- the text of a member
abbrev pub placed : List ℕ → Cell → List ℕ
placed text (node.String p) = part text p
placed text _ = []

abbrev pub all_placed : List ℕ → List Member → List ℕ
all_placed text [] = []
all_placed text (m ∷ ms) = placed text m.value ++ all_placed text ms

-- the members begun, from the place `at` of the text on
abbrev pub AreBegun : Store → ℕ → List Entry → List Begun → Type 0
AreBegun s at [] [] = ⊤
AreBegun s at [] (b ∷ bs) = ⊥
AreBegun s at (e ∷ es) [] = ⊥
AreBegun s at (e ∷ es) (b ∷ bs) = IsText s e.0 b.key × (b.from ≡ at) × AreBegun s (at + length (entry_bytes e.0 e.1)) es bs

-- ---- open containers

-- an object in which a key is awaited: its members, and its text so far, which begins at `start`
pub record Has (s : Store) (start : ℕ) (ms : Members) (bs : List Begun) (own : List ℕ) : Type 0 where
  pub entries : List Entry
  pub members : ms ≡ put_all no_members entries
  pub written : own ≡ begin_object ∷ entries_bytes entries
  pub begun : AreBegun s (start + 1) entries bs

-- an object in which the value of the key k is awaited
pub record HasKey (s : Store) (start : ℕ) (ms : Members) (k : List ℕ) (bs : List Begun) (own : List ℕ) : Type 0 where
  pub before : List Begun
  pub last : Begun
  pub begun : bs ≡ before ++ last ∷ []
  pub text : List ℕ
  pub written : own ≡ text ++ key_bytes k
  pub key : IsText s k last.key
  pub from : last.from ≡ start + length text
  pub has : Has s start ms before text

abbrev pub IsOpen : Store → ℕ → Open → List Begun → List ℕ → Type 0
IsOpen s start (in_array ts) bs own = (bs ≡ []) × (own ≡ begin_array ∷ items_bytes ts)
IsOpen s start (at_key ms) bs own = Has s start ms bs own
IsOpen s start (at_value ms k) bs own = HasKey s start ms k bs own

-- what is pending: the places where the open containers begin, their members, and the text
pub record Standing : Type 0 where
  pub places : List Start
  pub begun : List Begun
  pub text : List ℕ

-- the last of what is pending belongs to the innermost container
pub record Splits (all outer : Standing) (bs : List Begun) (own : List ℕ) : Type 0 where
  pub place : Start
  pub places : all.places ≡ outer.places ++ place ∷ []
  pub begun : all.begun ≡ outer.begun ++ bs
  pub text : all.text ≡ outer.text ++ own
  pub inside : place.inside ≡ length outer.text + 1
  pub first : place.members ≡ length outer.begun

abbrev pub HoldsIn : Store → Standing → List Open → Type 0
HoldsIn s w [] = (w.places ≡ []) × (w.begun ≡ []) × (w.text ≡ [])
HoldsIn s w (o ∷ os) = (outer : Standing) × (bs : List Begun) × (own : List ℕ) × Splits w outer bs own
    × IsOpen s (length outer.text) o bs own × HoldsIn s outer os

abbrev pub standing : Compact → Standing
standing c = record { places = c.opened.items; begun = c.begun.items; text = c.text.items }

-- the text has these open containers, the innermost first
abbrev pub Holds : Compact → List Open → Type 0
Holds c os = HoldsIn c.store (standing c) os

-- the text is that of the tree, and a comma
abbrev pub IsOf : Compact → Tree → Type 0
IsOf c t = c.text.items ≡ value_bytes t
