-- Laws of strings: what a list of UTF-16 units stands for, as the standard library says it.
use Rattle.std.specs.Prelude.{◌≡◌, ℕ, List, IsTrue, Some, map, not}
use Rattle.std.specs.Char.Utf16.{utf16_chars, has_unpaired_surrogate}
use Rattle.tinyjson_grammar.specs.Characters.{paired, decode}

-- surrogates are in pairs exactly if the standard library finds none unpaired, and the units stand for the characters that it decodes
abbrev pub PairsAsInStd : Type 0
PairsAsInStd =
    (us : List ℕ) → (paired us ≡ not (has_unpaired_surrogate us)) × (IsTrue (paired us) → utf16_chars us ≡ map Some (decode us))
