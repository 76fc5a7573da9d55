-- The first character of a literal and of a string.
use Rattle.std.proofs.Common.{◌≡◌, ℕ, true, false, List, [], ◌∷◌, Bool, Option, None, Some, inl, inr, codes, refl, sym, ap, ◌∙◌}
use Rattle.std.proofs.lemmas.Str.{chars-encodes}
use Rattle.std.specs.Str.{chars}
use Rattle.tinyjson_grammar.specs.Machine.{step, quoted, plain, Frame, awaited, next}
use Rattle.tinyjson_tokens.specs.Source.{Sight, Takes}
use Rattle.tinyjson_tokens.specs.Steps.{IsTaken, Leads, letters_left, onward}
use Rattle.tinyjson_grammar.specs.Characters.{BeginsLiteral}
use Rattle.tinyjson_grammar.specs.Tree.{literal_tree}
use Rattle.tinyjson_tokens.proofs.Reading.Steps.{Leads_nil, Leads_one, Leads_to}

-- the letters of a literal, of which the first was taken
abbrev pub rest_of : Option Bool → List ℕ
rest_of None = codes "ull"
rest_of (Some true) = codes "rue"
rest_of (Some false) = codes "alse"

abbrev pub first_of : Option Bool → ℕ
first_of None = 110
first_of (Some true) = 116
first_of (Some false) = 102

literal_begins : (limit : Option ℕ) (fs : List Frame) (v : Option Bool)
    → onward limit (next fs awaited) (first_of v) ≡ letters_left fs (rest_of v) (literal_tree v)
unfolding step
literal_begins limit fs None = refl
literal_begins limit fs (Some true) = refl
literal_begins limit fs (Some false) = refl

rest_chars : (v : Option Bool) → chars (rest_of v) ≡ rest_of v
unfolding lib.Utf8.encode
rest_chars None = chars-encodes (codes "ull") refl
rest_chars (Some true) = chars-encodes (codes "rue") refl
rest_chars (Some false) = chars-encodes (codes "alse") refl

rest_taken : (fs : List Frame) (v : Option Bool) → IsTaken (letters_left fs (rest_of v) (literal_tree v))
rest_taken fs None = tt
rest_taken fs (Some true) = tt
rest_taken fs (Some false) = tt

module _ {S : Type 0} (sight : Sight S) (limit : Option ℕ) (p q : S) (fs : List Frame) where
  -- the first letter of a literal is taken
  pub Leads_literal : (v : Option Bool) (c : ℕ) → c ≡ first_of v → Takes sight p (c ∷ []) q
      → Leads sight limit p (next fs awaited) q (letters_left fs (chars (rest_of v)) (literal_tree v))
  Leads_literal v c e k = Leads_to sight limit p q (Leads_one sight limit p p q c (Leads_nil sight limit p (next fs awaited)) k tt
      (ap (onward limit (next fs awaited)) e ∙ literal_begins limit fs v) (rest_taken fs v))
      (ap (λ ls. letters_left fs ls (literal_tree v)) (sym (rest_chars v)))

  -- the quote before a string is taken
  pub Leads_quote : Takes sight p (34 ∷ []) q → Leads sight limit p (next fs awaited) q (next fs (quoted plain [] []))
  unfolding step
  Leads_quote k = Leads_one sight limit p p q 34 (Leads_nil sight limit p (next fs awaited)) k tt refl tt

-- the letter that is left
pub literal_false : (c : ℕ) → BeginsLiteral c → (c ≡ 110 → ⊥) → (c ≡ 116 → ⊥) → c ≡ 102
literal_false c (inl e) n t = absurd (n e)
literal_false c (inr (inl e)) n t = absurd (t e)
literal_false c (inr (inr e)) n t = e
