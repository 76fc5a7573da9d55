-- Numbers, as a text in memory shows them at once. For contracts inside the parser.
use Rattle.std.specs.Prelude.{◌≡◌, ◌≤◌, ℕ, List, [], ◌∷◌, true, length, Option, None, Some, IfSome, IsTrue, MatchResult, Result}
use Rattle.tinyjson_number.specs.Numeral.{Numeral, spelling, value, in_range}
use Rattle.tinyjson_number.specs.Normal.{IsNormal}
use Rattle.tinyjson_number.specs.Number.{Canonical}
use Rattle.tinyjson_number.specs.Text.{decimal_text}
use Rattle.tinyjson_grammar.specs.Machine.{Frame, Next, complete}
use Rattle.tinyjson_grammar.specs.Tree.{number}
use Rattle.tinyjson_grammar.specs.declared.error.JsonParseErrorKind.{JsonParseErrorKind}
use Rattle.tinyjson_number.specs.Scan.{EndsNumber, IsGrammatical}
use Rattle.tinyjson_tokens.specs.Source.{Sight, Takes}
use Rattle.tinyjson_tokens.specs.Steps.{Leads, Refuses}

-- a number does not go on with this character
abbrev pub EndsBefore : Numeral → ℕ → Type 0
EndsBefore n c = EndsNumber n (c ∷ [])

-- the source p gives the number first, and q is the source after it
pub record TakesNumeral {S : Type 0} (sight : Sight S) (p : S) (n : Numeral) (q : S) : Type 0 where
  pub grammatical : IsGrammatical n
  pub takes : Takes sight p (spelling n) q
  pub ends : (o : Option ℕ) × sight.shows q o × IfSome o (EndsBefore n)

-- what was found of the number: it was made, or its text is lent, which is that of its decimal
abbrev pub IsFound : Numeral → Option Canonical → List ℕ → Type 0
IsFound n (Some x) lent = (x.decimal ≡ value n) × IsTrue (in_range (value n))
IsFound n None lent = IsNormal n × (lent ≡ spelling n)

-- the source p gives this number first, and q is the source after it
abbrev pub TakesNumber : {S : Type 0} → Sight S → (S → List ℕ) → S → Option Canonical → S → Type 0
TakesNumber sight lent p o q = (n : Numeral) × IsFound n o (lent q) × TakesNumeral sight p n q

-- a number that was made, or that of its text, which is short
abbrev pub IsRead : Option Canonical → List ℕ → Canonical → Type 0
IsRead (Some x) lent y = y.decimal ≡ x.decimal
IsRead None lent y = (lent ≡ decimal_text y.decimal) × (length lent ≤ 24)

-- reading a number took it
abbrev pub ReadsNumber : {S : Type 0} → Sight S → Option ℕ → S → Next → Result (Option Canonical) JsonParseErrorKind → List ℕ → List Frame
    → S → Type 0
ReadsNumber sight limit p n r lent fs q =
    MatchResult r (λ o. (y : Canonical) × IsRead o lent y × Leads sight limit p n q (complete true fs (number y.decimal) true))
    (λ k. Refuses sight limit p n k q)
