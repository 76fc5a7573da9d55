-- Fragments that are known to come to an end; for private contracts.
use Rattle.std.specs.Prelude.{◌≡◌, ℕ, Bool, true, false, ◌&&◌, List, [], ◌∷◌, Option, None, string_bytes, encode_utf8_all}
use Rattle.std.specs.Option.{option_map_or}
use Rattle.tinyjson.specs.Tree.{Tree, string}
use Rattle.tinyjson.specs.View.{view}
use Rattle.tinyjson_schema_keywords.specs.References.{reference_bytes, at_fragment}
use Rattle.tinyjson_schema_keywords.specs.declared.walk.Walk.{Walk}
use Rattle.tinyjson_schema.specs.Circles.{settles}
use Rattle.tinyjson_schema.specs.declared.settled.Found.{Found}
use Rattle.tinyjson_schema.specs.declared.settled.Settled.{Settled}

-- the bytes of the fragment that a reference is, percent-decoded
abbrev pub fragment_of : Tree → Option (List ℕ)
fragment_of (string cs) = reference_bytes (encode_utf8_all cs)
fragment_of _ = None

-- The fragment leads to a schema, and following on from there comes to an end within n steps.
abbrev pub ends : Tree → ℕ → List ℕ → Bool
ends root n bs = option_map_or (settles root n) (at_fragment root bs) false

-- each of the fragments comes to an end within its steps
abbrev pub all_end : Tree → List Found → Bool
all_end root [] = true
all_end root (f ∷ fs) = ends root f.steps (string_bytes f.fragment) && all_end root fs

-- what is known is right about the root schema, or about that of a walk
abbrev pub IsRight : Tree → Settled → Type 0
IsRight root known = all_end root known.found.items ≡ true

abbrev pub IsRightIn : Walk → Settled → Type 0
IsRightIn w = IsRight (view w.whole.now.root.now)
