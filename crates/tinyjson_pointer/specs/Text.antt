-- The text of a pointer (RFC 6901, sections 3 and 4).
use Rattle.std.specs.Prelude.{ℕ, ◌==◌, Bool, true, false, List, [], ◌∷◌, ◌++◌, Option, Some, None, cond, codes}
use Rattle.std.specs.Str.{bytes_eq}
use Rattle.tinyjson.specs.Characters.{solidus, tilde}

abbrev pub digit_one : ℕ
digit_one = 49

-- `~` is written `~0`, and `/` is written `~1`
abbrev pub escape_char : ℕ → List ℕ
escape_char c = cond (c == tilde) (codes "~0") (cond (c == solidus) (codes "~1") (c ∷ []))

abbrev pub escape : List ℕ → List ℕ
escape [] = []
escape (c ∷ cs) = escape_char c ++ escape cs

-- a `/` before each token
abbrev pub pointer_text : List (List ℕ) → List ℕ
pointer_text [] = []
pointer_text (t ∷ ts) = solidus ∷ (escape t ++ pointer_text ts)

-- the first token, and the others
abbrev pub Split : Type 0
Split = List ℕ × List (List ℕ)

abbrev pub longer : ℕ → Split → Split
longer c s = (c ∷ s.0, s.1)

abbrev pub parted : Split → Split
parted s = ([], s.0 ∷ s.1)

-- the tokens of a text, as far as it is one; the flag: a `~` is before it
abbrev pub split : Bool → List ℕ → Split
split _ [] = ([], [])
split true (c ∷ cs) = longer (cond (c == 48) 126 47) (split false cs)
split false (c ∷ cs) = cond (c == 47) (parted (split false cs)) (cond (c == 126) (split true cs) (longer c (split false cs)))

-- the tokens with this text, if it is that of a pointer
abbrev pub pointer_tokens : List ℕ → Option (List (List ℕ))
pointer_tokens cs = cond (bytes_eq (pointer_text (split false cs).1) cs) (Some (split false cs).1) None
