-- Texts as lists of bytes, and where they are cut: only at ASCII bytes.
use Rattle.std.specs.Prelude.{ℕ, Bool, false, ◌||◌, ◌==◌, List, [], ◌∷◌, Option, Some, None, cond}

abbrev pub number_sign : ℕ
number_sign = 35

abbrev pub slash : ℕ
slash = 47

abbrev pub colon : ℕ
colon = 58

abbrev pub question_mark : ℕ
question_mark = 63

abbrev pub is_number_sign : ℕ → Bool
is_number_sign c = c == number_sign

abbrev pub is_slash : ℕ → Bool
is_slash c = c == slash

-- the bytes before the first that passes the test; all if none does
abbrev pub before : (ℕ → Bool) → List ℕ → List ℕ
before p [] = []
before p (c ∷ cs) = cond (p c) [] (c ∷ before p cs)

-- that byte and the bytes after it; nothing if there is none
abbrev pub from : (ℕ → Bool) → List ℕ → List ℕ
from p [] = []
from p (c ∷ cs) = cond (p c) (c ∷ cs) (from p cs)

-- the text after the front, if it begins with it
abbrev pub after : List ℕ → List ℕ → Option (List ℕ)
after [] cs = Some cs
after (d ∷ ds) [] = None
after (d ∷ ds) (c ∷ cs) = cond (c == d) (after ds cs) None

abbrev pub has_slash : List ℕ → Bool
has_slash [] = false
has_slash (c ∷ cs) = is_slash c || has_slash cs

-- the text before its last `/`, and the text up to and with it; nothing if there is none
abbrev pub before_last_slash : List ℕ → List ℕ
before_last_slash [] = []
before_last_slash (c ∷ cs) = cond (has_slash cs) (c ∷ before_last_slash cs) []

abbrev pub through_last_slash : List ℕ → List ℕ
through_last_slash [] = []
through_last_slash (c ∷ cs) = cond (has_slash (c ∷ cs)) (c ∷ through_last_slash cs) []
