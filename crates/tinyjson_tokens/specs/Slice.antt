-- A place in a text, given by its bytes, and the characters on both sides of it. For private contracts.
use Rattle.std.specs.Prelude.{◌≡◌, ℕ, ◌+◌, Bool, List, [], ◌++◌, take, drop, Option, MatchOption, encode_utf8}
use Rattle.std.specs.Char.{len_utf8}
use Rattle.std.specs.List.{prefix_len}
use Rattle.std.specs.Str.{chars}
pub mod Laws

-- the characters before the place
abbrev pub before : List ℕ → ℕ → List ℕ
before text at = chars (take at text)

-- the characters from the place on
abbrev pub chars_after : List ℕ → ℕ → List ℕ
chars_after text at = chars (drop at text)

-- The character whose bytes begin at the place; or the text ends there.
abbrev pub NextChar : List ℕ → ℕ → Option ℕ → Type 0
NextChar text at o = MatchOption o (drop at text ≡ []) (λ c. drop at text ≡ encode_utf8 c ++ drop (at + len_utf8 c) text)

-- the place of the first byte, from the place on, that does not pass; or the length
abbrev pub run_end : (ℕ → Bool) → List ℕ → ℕ → ℕ
run_end p text at = at + prefix_len p (drop at text)
