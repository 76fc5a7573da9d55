-- The tokens of a pointer, as characters.
use Rattle.std.specs.Prelude.{ℕ, Bool, true, false, ◌&&◌, List, [], ◌∷◌, map}
use Rattle.std.specs.Str.{bytes_eq}
use Rattle.tinyjson.specs.View.{text}
use Rattle.tinyjson_pointer.specs.declared.pointer.Pointer.{Pointer}

abbrev pub tokens_of : Pointer → List (List ℕ)
tokens_of p = map text p.tokens.items

-- the other tokens are a prefix of the tokens
abbrev pub begins_with : List (List ℕ) → List (List ℕ) → Bool
begins_with ks [] = true
begins_with [] (l ∷ ls) = false
begins_with (k ∷ ks) (l ∷ ls) = bytes_eq l k && begins_with ks ls
