-- Laws of the parts of texts.
use Rattle.std.specs.Prelude.{◌≡◌, ℕ, List}
use Rattle.text_uri.specs.Parts.{split, composed}
use Rattle.text_uri.specs.Resolving.{fragment_of}

-- each text is composed of its parts
abbrev pub TextOfParts : Type 0
TextOfParts = (text : List ℕ) → composed (split text) ≡ text

-- the fragment is all after the first `#`
abbrev pub FragmentOfParts : Type 0
FragmentOfParts = (text : List ℕ) → (split text).fragment ≡ fragment_of text
