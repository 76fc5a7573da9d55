-- The names of files.
use Rattle.std.specs.Prelude.{ℕ, Bool, ◌==◌, nat_lt, List}
use Rattle.std.specs.Prelude.{Option, Some, None, unwrap_or, cond, codes, length}
use Rattle.std.specs.List.{position_or_len, before_first, after_first}
use Rattle.text_uri.specs.Letters.{after}

-- `URI=NAME`, or a name alone
abbrev pub is_equals : ℕ → Bool
is_equals c = c == 61

abbrev pub has_equals : List ℕ → Bool
has_equals text = nat_lt (position_or_len is_equals text) (length text)

abbrev pub located : List ℕ → Option (List ℕ) × List ℕ
located text = cond (has_equals text) (Some (before_first is_equals text), after_first is_equals text) (None, text)

-- without `./` at its front
abbrev pub plain : List ℕ → List ℕ
plain name = unwrap_or (after (codes "./") name) name
