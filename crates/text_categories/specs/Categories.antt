-- The general categories of characters, and the names for them and their groups in RFC 9485 (section 3,
-- IsCategory).
use Rattle.std.specs.Prelude.{ℕ, ◌+◌, Bool, ◌&&◌, ◌==◌, nat_le, cond, List, [], ◌∷◌, Option, Some, None, option_map, codes}
use Rattle.text_categories.specs.declared.Category.{Category}
use Rattle.text_categories.specs.declared.table.TheConstants.{RUNS}
use Rattle.text_categories.specs.Runs.{run_category}

-- the number of a character's category, by Unicode's table
unfoldable pub general_category : ℕ → ℕ
general_category c = run_category RUNS c

-- the number of a letter; the first letter has the number n
abbrev pub numbered : ℕ → List ℕ → ℕ → Option ℕ
numbered n [] l = None
numbered n (k ∷ ks) l = cond (l == k) (Some n) (numbered (n + 1) ks l)

-- The number of a category, given the letter of its group and its own. The groups are L (letters), M (marks),
-- N (numbers), P (punctuation), Z (separators), S (symbols) and C (others). Surrogates have the number 29;
-- they are no characters, and have no name.
abbrev pub category_number : ℕ → ℕ → Option ℕ
category_number g l =
    cond (g == 76) (numbered 0 (codes "ultmo") l) (cond (g == 77) (numbered 5 (codes "nce") l) (cond (g == 78) (numbered 8 (codes "dlo") l)
    (cond (g == 80) (numbered 11 (codes "cdseifo") l) (cond (g == 90) (numbered 18 (codes "slp") l)
    (cond (g == 83) (numbered 21 (codes "mcko") l) (cond (g == 67) (numbered 25 (codes "cfno") l) None))))))

-- the numbers of a group's first and last category
abbrev pub group_bounds : ℕ → Option (ℕ × ℕ)
group_bounds g =
    cond (g == 76) (Some (0, 4)) (cond (g == 77) (Some (5, 7)) (cond (g == 78) (Some (8, 10)) (cond (g == 80) (Some (11, 17))
    (cond (g == 90) (Some (18, 20)) (cond (g == 83) (Some (21, 24)) (cond (g == 67) (Some (25, 28)) None))))))

-- the categories with the numbers from the first to the last
abbrev pub from_to : ℕ × ℕ → Category
from_to b = record { first = b.0; last = b.1 }

-- a group or, with a second letter, one of its categories
abbrev pub named : ℕ → Option ℕ → Option Category
named g None = option_map from_to (group_bounds g)
named g (Some l) = option_map (λ n. from_to (n, n)) (category_number g l)

-- the number of the character's category is at least the first and at most the last
abbrev pub is_in : ℕ → ℕ → ℕ → Bool
is_in first last c = nat_le first (general_category c) && nat_le (general_category c) last
