-- For private contracts.
use Rattle.std.specs.Prelude.{ℕ, zero, suc, Bool, true, false, cond, ◌==◌, nat_le, nat_lt, map, length, List, [], ◌∷◌}
use Rattle.std.specs.Prelude.{Option, Some, None, option_map, get_or}
use Rattle.std.specs.Char.{is_ascii_digit}
use Rattle.std.specs.List.{list_all}
use denote.Ref.{Bor}
use Rattle.text_categories.specs.Categories.{is_in}
use Rattle.text_categories.specs.declared.Category.{Category}
use Rattle.text_ecma_regexp.specs.Letters.{is_not_digit, is_brace_end, is_equals_sign, is_greater_sign}
use Rattle.text_ecma_regexp.specs.Regex.{captures, name_value}
use Rattle.text_ecma_regexp.specs.declared.letters.End.{End}
use Rattle.text_ecma_regexp.specs.declared.letters.End.TheVariants as at
use Rattle.text_ecma_regexp.specs.declared.names.Characters.{Characters}
use Rattle.text_ecma_regexp.specs.declared.regex.Groups.{Groups}

-- where a part ends
abbrev pub ends : End → ℕ → Bool
ends at.Digits = is_not_digit
ends at.Brace = is_brace_end
ends at.Equals = is_equals_sign
ends at.Greater = is_greater_sign

abbrev pub now : Option (Bor (List ℕ)) → Option (List ℕ)
now part = option_map (λ x. x.now) part

-- texts, and those that are not too many
abbrev pub texts : List (Bor (List ℕ)) → List (List ℕ)
texts parts = map (λ x. x.now) parts

abbrev pub few : List (List ℕ) → Option (List (List ℕ))
few names = cond (nat_le (length names) 128) (Some names) None

-- a value and the rest
abbrev pub found : {V : Type 0} → Option (V × Bor (List ℕ)) → Option (V × List ℕ)
found front = option_map (λ p. (p.0, p.1.now)) front

-- the characters of a name that are left
abbrev pub left_of : Characters → List ℕ
left_of characters = name_value characters.left characters.rest.now

-- the first of the texts behind a parenthesis, and the others
abbrev pub unrolled : Option (Bor (List ℕ)) → List (List ℕ)
unrolled None = []
unrolled (Some text) = text.now ∷ captures text.now

-- the character is in the category
abbrev pub is_in_named : Option Category → ℕ → Bool
is_in_named None c = false
is_in_named (Some category) c = is_in category.first category.last c

-- digits, and those after zeros
abbrev pub are_digits : List ℕ → Bool
are_digits digits = list_all is_ascii_digit digits

abbrev pub without_zeros : List ℕ → List ℕ
without_zeros [] = []
without_zeros (c ∷ cs) = cond (c == 48) (without_zeros cs) (c ∷ cs)

-- digits in the order of their numbers: by their first that differ, or by how many they are
abbrev pub ordered : List ℕ → List ℕ → Bool
ordered [] es = true
ordered (d ∷ ds) [] = false
ordered (d ∷ ds) (e ∷ es) = cond (d == e) (ordered ds es) (nat_lt d e)

abbrev pub at_most : List ℕ → List ℕ → Bool
at_most ds es = cond (length (without_zeros ds) == length (without_zeros es)) (ordered (without_zeros ds) (without_zeros es))
    (nat_lt (length (without_zeros ds)) (length (without_zeros es)))

-- the first of the groups are open; the innermost is first
abbrev pub stack : List Bool → ℕ → List Bool
stack kinds zero = []
stack kinds (suc n) = get_or kinds n false ∷ stack kinds n

abbrev pub groups_of : Groups → List Bool
groups_of groups = stack groups.kinds groups.depth

-- the open groups and the rest
abbrev pub led : Groups → Option (Bor (List ℕ)) → Option (List Bool × List ℕ)
led groups rest = option_map (λ r. (groups_of groups, r.now)) rest
