-- Regular expressions, and the texts that they match.
use Rattle.std.specs.Prelude.{◌≡◌, ℕ, zero, suc, ◌≤◌, Bool, true, false, ◌&&◌, ◌||◌, not, nat_le, cond, List, [], ◌∷◌, ◌++◌}
use Rattle.std.specs.Prelude.{Option, Some, None, is_none, ◌==◌, ◌⊎◌}
use Rattle.text_categories.specs.Categories.{is_in}
use Rattle.text_regexp.specs.declared.assertion.Assertion.{Assertion}
use Rattle.text_regexp.specs.declared.assertion.Assertion.TheVariants.{Start, End, WordBoundary, NotWordBoundary}
use Rattle.text_regexp.specs.declared.class.Item.{Item}
use Rattle.text_regexp.specs.declared.class.Item.TheVariants.{Range, In, NotIn}

-- the item of a class has the character: it is in the range, in the category, or not in the
-- category
abbrev pub is_item : Item → ℕ → Bool
is_item (Range first last) c = nat_le first c && nat_le c last
is_item (In k) c = is_in k.first k.last c
is_item (NotIn k) c = not (is_in k.first k.last c)

-- one of the items has the character
abbrev pub is_within : List Item → ℕ → Bool
is_within [] c = false
is_within (r ∷ rs) c = is_item r c || is_within rs c

-- the class has the character: one of its items has it or, if it is negated, none has it
abbrev pub is_in_class : Bool → List Item → ℕ → Bool
is_in_class negated items c = cond negated (not (is_within items c)) (is_within items c)

-- it is a letter of ASCII, a digit, or `_` (ECMA-262, WordCharacters)
abbrev pub is_word : ℕ → Bool
is_word c =
    (nat_le 48 c && nat_le c 57) || ((nat_le 65 c && nat_le c 90) || ((c == 95) || (nat_le 97 c && nat_le c 122)))

-- so is the character there, if there is one
abbrev pub is_word_at : Option ℕ → Bool
is_word_at None = false
is_word_at (Some c) = is_word c

-- one of the two holds, and not the other
abbrev pub differ : Bool → Bool → Bool
differ a b = cond a (not b) b

-- the assertion holds between the two characters; at an end of the text there is none (ECMA-262, 22.2.2.4)
abbrev pub holds : Assertion → Option ℕ → Option ℕ → Bool
holds Start before after = is_none before
holds End before after = is_none after
holds WordBoundary before after = differ (is_word_at before) (is_word_at after)
holds NotWordBoundary before after = not (differ (is_word_at before) (is_word_at after))

-- A regular expression: the empty one, one character of a class, an assertion, a sequence, a choice, or a
-- repetition with a least and perhaps a greatest number. Patterns with look-aheads also have texts
-- that both match, and texts that one does not match.
pub data Form : Type 0 where
  empty : Form
  class : (negated : Bool) (items : List Item) → Form
  assertion : (kind : Assertion) → Form
  concat : (first second : Form) → Form
  alternation : (first second : Form) → Form
  repetition : (body : Form) (least : ℕ) (most : Option ℕ) → Form
  both : (first second : Form) → Form
  no : (body : Form) → Form

-- the character that follows, before a part of a text
abbrev pub next_of : List ℕ → Option ℕ → Option ℕ
next_of [] after = after
next_of (c ∷ cs) after = Some c

-- the character before, behind a part of a text
abbrev pub last_of : Option ℕ → List ℕ → Option ℕ
last_of before [] = before
last_of before (c ∷ cs) = last_of (Some c) cs

-- a part of that many parts, one after the other, and P is true for each between its neighbours
abbrev pub Parts : (Option ℕ → List ℕ → Option ℕ → Type 0) → ℕ → Option ℕ → List ℕ → Option ℕ → Type 0
Parts P zero before cs after = cs ≡ []
Parts P (suc n) before cs after =
    (xs : List ℕ) × (ys : List ℕ) × (cs ≡ xs ++ ys) × P before xs (next_of ys after) × Parts P n (last_of before xs) ys after

-- the number is at most the bound, if there is one
abbrev pub AtMost : ℕ → Option ℕ → Type 0
AtMost n None = Unit {0}
AtMost n (Some most) = n ≤ most

-- the regular expression matches the whole part, between the characters before and after it
abbrev pub MatchesIn : Form → Option ℕ → List ℕ → Option ℕ → Type 0
MatchesIn empty before cs after = cs ≡ []
MatchesIn (class negated items) before cs after = (c : ℕ) × (cs ≡ c ∷ []) × (is_in_class negated items c ≡ true)
MatchesIn (assertion kind) before cs after = (cs ≡ []) × (holds kind before after ≡ true)
MatchesIn (concat r s) before cs after =
    (xs : List ℕ) × (ys : List ℕ) × (cs ≡ xs ++ ys) × MatchesIn r before xs (next_of ys after) × MatchesIn s (last_of before xs) ys after
MatchesIn (alternation r s) before cs after = MatchesIn r before cs after ⊎ MatchesIn s before cs after
MatchesIn (repetition r least most) before cs after =
    (n : ℕ) × (least ≤ n) × AtMost n most × Parts (MatchesIn r) n before cs after
MatchesIn (both r s) before cs after = MatchesIn r before cs after × MatchesIn s before cs after
MatchesIn (no r) before cs after = MatchesIn r before cs after → ⊥

-- the regular expression matches the whole text
abbrev pub Matches : Form → List ℕ → Type 0
Matches r cs = MatchesIn r None cs None

-- the regular expression matches a part of the text
pub record Searches (r : Form) (cs : List ℕ) : Type 0 where
  pub before : List ℕ
  pub part : List ℕ
  pub after : List ℕ
  pub split : cs ≡ before ++ (part ++ after)
  pub matched : MatchesIn r (last_of None before) part (next_of after None)
