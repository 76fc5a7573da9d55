-- Ranges of texts: of the text that is read, or of what is appended to it. For private contracts.
use Rattle.std.specs.Prelude.{◌≡◌, ◌≤◌, ℕ, ◌+◌, ◌-◌, nat_le, cond, min, List, ◌++◌, length, string_bytes}
use Rattle.std.specs.List.{slice_range}
use Rattle.tinyjson_number.specs.Number.{Canonical}
use Rattle.tinyjson_number.specs.Text.{decimal_text}
use Rattle.tinyjson_cells.specs.declared.store.Span.{Span}
use Rattle.tinyjson_cells.specs.declared.texts.Source.{Source}
use Rattle.tinyjson_cells.specs.declared.texts.Source.TheVariants.{Lent, Kept}
use Rattle.tinyjson_cells.specs.declared.texts.Texts.{Texts}

-- the elements in the range, as far as there are any
abbrev pub part : {A : Type 0} → List A → Span → List A
part xs p = slice_range xs (min p.from (min p.to (length xs))) (min p.to (length xs))

abbrev pub source_bytes : Source → List ℕ
source_bytes (Lent s) = s.now
source_bytes (Kept s) = string_bytes s

-- the range without its first n places
abbrev pub behind : ℕ → Span → Span
behind n p = record { from = p.from - n; to = p.to - n }

-- the bytes in the range: of the source, if it ends there, or else of what is appended
abbrev pub part_of : Texts → Span → List ℕ
part_of s p =
    let source = source_bytes s.source in
    cond (nat_le p.to (length source)) (part source p) (part s.added.items (behind (length source) p))

-- the range ends within the texts
abbrev pub IsWithin : Texts → Span → Type 0
IsWithin s p = p.to ≤ length (source_bytes s.source) + length s.added.items

-- the range has these bytes
pub record IsAt (s : Texts) (bs : List ℕ) (p : Span) : Type 0 where
  pub within : IsWithin s p
  pub bytes : part_of s p ≡ bs

-- the range has the text of the number, which is short
pub record IsNumberAt (s : Texts) (n : Canonical) (p : Span) : Type 0 where
  pub text : IsAt s (decimal_text n.decimal) p
  pub few : length (decimal_text n.decimal) ≤ 24

-- the second texts are the first with more appended
pub record TextsGrow (old new : Texts) : Type 0 where
  pub source : source_bytes old.source ≡ source_bytes new.source
  pub more : List ℕ
  pub added : new.added.items ≡ old.added.items ++ more
