-- The grammar and matching, as tests; for private contracts.
use Rattle.std.specs.Prelude.{ℕ, zero, suc, ◌+◌, Bool, true, false, not, ◌&&◌, ◌||◌, nat_le, List, [], ◌∷◌, length, Option, Some, None}
use Rattle.std.specs.Prelude.{option_map, option_and_then}
use Rattle.text_regexp.specs.declared.class.Item.{Item}
use Rattle.text_regexp.specs.Forms.{Form, empty, class, assertion, concat, alternation, repetition, both, no, is_in_class, holds}
use Rattle.text_regexp.specs.Forms.{next_of, last_of}
use Rattle.text_iregexp.specs.Fronts.{token_front}
use Rattle.text_iregexp.specs.Grammar.{Token, Regexp, regexp_form}
use Rattle.text_iregexp.specs.Levels.{State, fresh, regexp_of, run}

-- the text has two parts, one after the other, for which the test is true
abbrev pub splits : (List ℕ → List ℕ → Bool) → List ℕ → Bool
splits f [] = f [] []
splits f (c ∷ cs) = f [] (c ∷ cs) || splits (λ xs ys. f (c ∷ xs) ys) cs

abbrev pub is_empty : List ℕ → Bool
is_empty [] = true
is_empty (c ∷ cs) = false

-- whether the text is one character of the class
abbrev pub is_one_in : Bool → List Item → List ℕ → Bool
is_one_in negated items [] = false
is_one_in negated items (c ∷ []) = is_in_class negated items c
is_one_in negated items (c ∷ d ∷ cs) = false

-- a test of a part of a text, between the characters before and after it
abbrev pub PartTest : Type 0
PartTest = Option ℕ → List ℕ → Option ℕ → Bool

-- the part has two parts, one after the other, for which these tests are true
abbrev pub both_in : PartTest → PartTest → Option ℕ → List ℕ → Option ℕ → Bool
both_in f g before cs after = splits (λ xs ys. f before xs (next_of ys after) && g (last_of before xs) ys after) cs

-- the part has that many parts, one after the other, and the test is true for each
abbrev pub are_parts : PartTest → ℕ → Option ℕ → List ℕ → Option ℕ → Bool
are_parts f zero before cs after = is_empty cs
are_parts f (suc n) before cs after = both_in f (are_parts f n) before cs after

abbrev pub is_at_most : ℕ → Option ℕ → Bool
is_at_most n None = true
is_at_most n (Some most) = nat_le n most

abbrev pub is_count : (ℕ → Bool) → ℕ → Option ℕ → ℕ → Bool
is_count parts least most n = nat_le least n && (is_at_most n most && parts n)

-- the test is true for a number up to n
abbrev pub some_below : (ℕ → Bool) → ℕ → Bool
some_below f zero = f zero
some_below f (suc n) = f (suc n) || some_below f n

-- whether the regular expression matches the whole part, between the characters before and after it; more parts than the least and the
-- characters are never needed
abbrev pub matches_in : Form → Option ℕ → List ℕ → Option ℕ → Bool
matches_in empty before cs after = is_empty cs
matches_in (class negated items) before cs after = is_one_in negated items cs
matches_in (assertion kind) before cs after = is_empty cs && holds kind before after
matches_in (concat r s) before cs after = both_in (matches_in r) (matches_in s) before cs after
matches_in (alternation r s) before cs after = matches_in r before cs after || matches_in s before cs after
matches_in (repetition r least most) before cs after =
    some_below (is_count (λ n. are_parts (matches_in r) n before cs after) least most) (least + length cs)
matches_in (both r s) before cs after = matches_in r before cs after && matches_in s before cs after
matches_in (no r) before cs after = not (matches_in r before cs after)

-- whether the regular expression matches the whole text
abbrev pub matches : Form → List ℕ → Bool
matches r cs = matches_in r None cs None

-- whether the regular expression matches a part of the text
abbrev pub searches : Form → List ℕ → Bool
searches r cs =
    splits (λ before rest. splits (λ part after. matches_in r (last_of None before) part (next_of after None)) rest) cs

abbrev pub with_token : Token → List Token → List Token
with_token t ts = t ∷ ts

-- the tokens of a text with at most n characters
abbrev pub tokens_in : ℕ → List ℕ → Option (List Token)
tokens_in zero [] = Some []
tokens_in zero (c ∷ cs) = None
tokens_in (suc n) [] = Some []
tokens_in (suc n) (c ∷ cs) = option_and_then (λ p. option_map (with_token p.0) (tokens_in n p.1)) (token_front (c ∷ cs))

-- the regular expression that was parsed, if no group is open
abbrev pub whole_of : State → Option Regexp
whole_of (l, []) = Some (regexp_of l)
whole_of (l, o ∷ os) = None

-- the regular expression that the text is
abbrev pub regexp_in : List ℕ → Option Regexp
regexp_in cs = option_and_then whole_of (option_and_then (run (fresh, [])) (tokens_in (length cs) cs))

-- there is one, and the test is true for it
abbrev pub is_regexp : (Form → Bool) → Option Regexp → Bool
is_regexp f None = false
is_regexp f (Some r) = f (regexp_form r)

-- the first text is a regular expression that matches the whole of the second
abbrev pub pattern_matches : List ℕ → List ℕ → Bool
pattern_matches ps cs = is_regexp (λ f. matches f cs) (regexp_in ps)

-- the first text is a regular expression that matches a part of the second
abbrev pub pattern_searches : List ℕ → List ℕ → Bool
pattern_searches ps cs = is_regexp (λ f. searches f cs) (regexp_in ps)
