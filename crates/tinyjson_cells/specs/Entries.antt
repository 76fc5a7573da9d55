-- The keys and values of an object in the order of the text. For private contracts.
use Rattle.std.specs.Prelude.{ℕ, List, [], ◌∷◌, ⊤}
use Rattle.tinyjson_grammar.specs.Tree.{Tree, Members, put}
use Rattle.tinyjson_cells.specs.Cell.{Is, IsText}
use Rattle.tinyjson_cells.specs.declared.store.Span.{Span}
use Rattle.tinyjson_cells.specs.declared.store.Cell.{Cell}
use Rattle.tinyjson_cells.specs.declared.store.Store.{Store}

-- a key and its value
abbrev pub Entry : Type 0
Entry = List ℕ × Tree

-- each value put at its key in turn: of equal keys the last one is kept
abbrev pub put_all : Members → List Entry → Members
put_all ms [] = ms
put_all ms (e ∷ es) = put_all (put e.0 e.1 ms) es

-- the pending keys and values are these entries, in the order of the text; R relates a key, its tree and its cell
abbrev pub AreEntriesBy : Store → (List ℕ → Tree → Cell → Type 0) → List Entry → List Span → List Cell → Type 0
AreEntriesBy s R [] [] [] = ⊤
AreEntriesBy s R [] [] (v ∷ vs) = ⊥
AreEntriesBy s R [] (k ∷ ks) vs = ⊥
AreEntriesBy s R (e ∷ es) [] vs = ⊥
AreEntriesBy s R (e ∷ es) (k ∷ ks) [] = ⊥
AreEntriesBy s R (e ∷ es) (k ∷ ks) (v ∷ vs) = IsText s e.0 k × R e.0 e.1 v × AreEntriesBy s R es ks vs

abbrev pub AreEntries : Store → List Entry → List Span → List Cell → Type 0
AreEntries s es ks vs = AreEntriesBy s (λ k t n. Is s t n) es ks vs
