-- Characters that are passed by their brackets and quotation marks.
use Rattle.std.specs.Prelude.{ℕ, zero, suc, ◌≤◌, ◌==◌, ◌||◌, Bool, false, cond, List, [], ◌∷◌, Option, Some, None}
use Rattle.std.specs.Prelude.{option_and_then}
use Rattle.tinyjson_grammar.specs.Characters.{name_separator, value_separator, begin_array, begin_object, end_array, end_object}
use Rattle.tinyjson_grammar.specs.Characters.{quotation_mark, reverse_solidus, is_white}
use Rattle.tinyjson_pointer.specs.declared.place.scan.Scan.{Scan}
use Rattle.tinyjson_pointer.specs.declared.place.scan.Scan.TheVariants.{Outside, Quoted, Escaped}
use Rattle.tinyjson_pointer.specs.declared.place.scan.Seen.{Seen}
use Rattle.tinyjson_pointer.specs.declared.place.scan.Seen.TheVariants.{Goes, Found, Closed}

abbrev pub without_white : List ℕ → List ℕ
without_white [] = []
without_white (c ∷ cs) = cond (is_white c) (without_white cs) (c ∷ cs)

-- a closing bracket or brace is first
abbrev pub is_closed : List ℕ → Bool
is_closed [] = false
is_closed (c ∷ cs) = (c == end_array) || (c == end_object)

abbrev pub level_of : Scan → ℕ
level_of (Outside n) = n
level_of (Quoted n) = n
level_of (Escaped n) = n

abbrev pub Goes_within : Seen → ℕ → Type 0
Goes_within (Goes s) n = level_of s ≤ n
Goes_within Found n = Unit {0}
Goes_within Closed n = Unit {0}

abbrev pub closes : ℕ → Seen
closes zero = Closed
closes (suc n) = Goes (Outside n)

-- the character is looked for outside of all inner containers
abbrev pub stops : ℕ → Bool → Seen
stops zero b = cond b Found (Goes (Outside zero))
stops (suc n) b = Goes (Outside (suc n))

abbrev pub see_outside : ℕ → ℕ → ℕ → Seen
see_outside stop n c =
    cond (c == quotation_mark) (Goes (Quoted n))
    (cond ((c == begin_array) || (c == begin_object)) (Goes (Outside (suc n)))
    (cond ((c == end_array) || (c == end_object)) (closes n) (stops n (c == stop))))

abbrev pub see : ℕ → Scan → ℕ → Seen
see stop (Outside n) c = see_outside stop n c
see stop (Quoted n) c =
    cond (c == quotation_mark) (Goes (Outside n)) (cond (c == reverse_solidus) (Goes (Escaped n)) (Goes (Quoted n)))
see stop (Escaped n) c = Goes (Quoted n)

abbrev pub go_on : (Scan → Option (List ℕ)) → Seen → List ℕ → Option (List ℕ)
go_on f (Goes s) cs = f s
go_on f Found cs = Some cs
go_on f Closed cs = None

-- what follows the first such character outside of strings and inner containers, unless a bracket closes before it
abbrev pub after : ℕ → Scan → List ℕ → Option (List ℕ)
after stop s [] = None
after stop s (c ∷ cs) = go_on (λ t. after stop t cs) (see stop s c) cs

abbrev pub after_comma : List ℕ → Option (List ℕ)
after_comma xs = after value_separator (Outside 0) xs

abbrev pub after_colon : List ℕ → Option (List ℕ)
after_colon xs = after name_separator (Outside 0) xs

-- what follows that many commas
abbrev pub after_commas : ℕ → List ℕ → Option (List ℕ)
after_commas zero xs = Some xs
after_commas (suc i) xs = option_and_then (after_commas i) (after_comma xs)
