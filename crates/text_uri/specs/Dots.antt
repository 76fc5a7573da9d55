-- Removes the segments `.` and `..` of a path by the steps A to E of RFC 3986, section 5.2.4.
use Rattle.std.specs.Prelude.{ℕ, zero, suc, Bool, ◌||◌, List, [], ◌∷◌, ◌++◌, length, Option, Some, None, cond, codes}
use Rattle.std.specs.Option.{option_map_or}
use Rattle.std.specs.Str.{bytes_eq}
use Rattle.text_uri.specs.Letters.{is_slash, before, from, after, before_last_slash}

-- what follows a whole segment: a `/` and more; or nothing, which becomes `/`
abbrev pub slash_for : Option (List ℕ) → Option (List ℕ)
slash_for None = None
slash_for (Some []) = Some (codes "/")
slash_for (Some (c ∷ cs)) = cond (is_slash c) (Some (c ∷ cs)) None

-- the input with its front replaced by `/`, if it begins with it and a segment ends there
abbrev pub after_segment : List ℕ → List ℕ → Option (List ℕ)
after_segment front input = slash_for (after front input)

abbrev pub is_dots : List ℕ → Bool
is_dots input = bytes_eq input (codes ".") || bytes_eq input (codes "..")

-- the first segment, with the `/` before it if there is one, and the rest
abbrev pub first_segment : List ℕ → List ℕ
first_segment [] = []
first_segment (c ∷ cs) = c ∷ before is_slash cs

abbrev pub after_first_segment : List ℕ → List ℕ
after_first_segment [] = []
after_first_segment (c ∷ cs) = from is_slash cs

-- the output buffer, and the input buffer
abbrev pub Buffers : Type 0
Buffers = List ℕ × List ℕ

-- the buffers after the first step that applies: A, which has two cases, B, C, D or else E
abbrev pub step : List ℕ → List ℕ → Buffers
step output input =
    option_map_or {U = Buffers} (λ rest. (output, rest)) (after (codes "../") input)
    (option_map_or {U = Buffers} (λ rest. (output, rest)) (after (codes "./") input)
    (option_map_or {U = Buffers} (λ rest. (output, rest)) (after_segment (codes "/.") input)
    (option_map_or {U = Buffers} (λ rest. (before_last_slash output, rest)) (after_segment (codes "/..") input)
    (cond (is_dots input) (output, []) (output ++ first_segment input, after_first_segment input)))))

abbrev pub steps : ℕ → Buffers → Buffers
steps zero b = b
steps (suc n) b = steps n (step b.0 b.1)

-- The steps go on until the input is empty. Each removes at least one byte, and E changes nothing on an empty
-- input. So there are as many steps as the path has bytes.
abbrev pub without_dots : List ℕ → List ℕ
without_dots path = (steps (length path) ([], path)).0
