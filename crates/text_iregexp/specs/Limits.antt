-- The limits of nesting and size.
use Rattle.std.specs.Prelude.{◌≡◌, ℕ, suc, ◌+◌, ◌-◌, ◌*◌, ◌<◌, Bool, true, ◌&&◌, ◌||◌, ◌==◌, List, [], ◌∷◌, ◌++◌, length, ◌/◌}
use Rattle.std.specs.Prelude.{Option, Some, None}
use Rattle.text_regexp.specs.declared.class.Item.{Item}
use Rattle.text_iregexp.specs.Characters.{left_brace, comma}
use Rattle.text_iregexp.specs.Grammar.{Token, opened, closed, is_digit, are_digits, count, Regexp, last, branches, Branch, nothing, pieces}
use Rattle.text_iregexp.specs.Grammar.{Piece, once, times, asserts, Atom, character, group}

-- how many groups may be nested
abbrev pub depth_limit : ℕ
depth_limit = 200

-- 1 for the token that begins a group, and 0 for others
abbrev pub begins_group : Token → ℕ
begins_group opened = 1
begins_group t = 0

-- 1 for the token that ends a group, and 0 for others
abbrev pub ends_group : Token → ℕ
ends_group closed = 1
ends_group t = 0

-- how many groups begin in these tokens
abbrev pub begun_groups : List Token → ℕ
begun_groups [] = 0
begun_groups (t ∷ ts) = begins_group t + begun_groups ts

-- how many groups end in these tokens
abbrev pub ended_groups : List Token → ℕ
ended_groups [] = 0
ended_groups (t ∷ ts) = ends_group t + ended_groups ts

-- the greatest size of a regular expression
abbrev pub size_limit : ℕ
size_limit = 10100

-- how often a repeated part is written out in addition
abbrev pub repeated : ℕ → Option ℕ → ℕ
repeated least None = least
repeated least (Some most) = most - 1

-- the size of a class: 1, and 1 more for each 16 of its items
abbrev pub class_size : List Item → ℕ
class_size items = suc (length items / 16)

-- The size: each group, bar and assertion counts as 1, a class by its items, and a repeated part as
-- often as it is written out. That is n times for {m,n}, though at least once, and m + 1 times for {m,}.
abbrev mutual
  pub regexp_size : Regexp → ℕ
  regexp_size (last b) = branch_size b
  regexp_size (branches b r) = branch_size b + suc (regexp_size r)

  pub branch_size : Branch → ℕ
  branch_size nothing = 0
  branch_size (pieces p b) = piece_size p + branch_size b

  pub piece_size : Piece → ℕ
  piece_size (once a) = atom_size a
  piece_size (times a least most) = atom_size a + repeated least most * atom_size a
  piece_size (asserts kind) = 1

  pub atom_size : Atom → ℕ
  atom_size (character negated items) = class_size items
  atom_size (group r) = suc (regexp_size r)

-- The text begins with a number that is greater than the limit.
pub record LargeNumber (cs : List ℕ) : Type 0 where
  pub first : ℕ
  pub digits : List ℕ
  pub after : List ℕ
  pub split : cs ≡ first ∷ (digits ++ after)
  pub is_first : is_digit first ≡ true
  pub are : are_digits digits ≡ true
  pub large : size_limit < count first digits

-- these are digits and commas
abbrev pub are_counts : List ℕ → Bool
are_counts [] = true
are_counts (c ∷ cs) = (is_digit c || (c == comma)) && are_counts cs

-- The rest begins with a brace, then at most digits and commas, then a number that is greater than
-- the limit.
pub record LargeCount (rest : List ℕ) : Type 0 where
  pub before : List ℕ
  pub number : List ℕ
  pub split : rest ≡ left_brace ∷ (before ++ number)
  pub counts : are_counts before ≡ true
  pub large : LargeNumber number
