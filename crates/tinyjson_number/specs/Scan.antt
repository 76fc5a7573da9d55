-- Numbers among the bytes of a text (RFC 8259, section 6).
use Rattle.std.specs.Prelude.{◌≡◌, ℕ, ◌≤◌, ◌==◌, Bool, false, List, [], ◌∷◌, ◌++◌, drop, length, None}
use Rattle.std.specs.Char.{is_ascii_digit}
use Rattle.tinyjson_number.specs.Characters.{decimal_point}
use Rattle.tinyjson_number.specs.Numeral.{Numeral, IsNumeral, has_leading_zero, is_exponent_letter, spelling}
use Rattle.tinyjson_number.specs.Reading.{plain, numeral_of}
use Rattle.tinyjson_number.specs.declared.parse.NumberParts.{NumberParts}

-- whether the text begins with a character that passes the test
abbrev pub starts : (ℕ → Bool) → List ℕ → Bool
starts test [] = false
starts test (c ∷ cs) = test c

abbrev pub is_point : ℕ → Bool
is_point c = c == decimal_point

-- a number does not go on with what follows
pub record EndsNumber (n : Numeral) (rest : List ℕ) : Type 0 where
  pub digit : starts is_ascii_digit rest ≡ false
  pub point : n.fraction ≡ [] → n.exponent ≡ None → starts is_point rest ≡ false
  pub letter : n.exponent ≡ None → starts is_exponent_letter rest ≡ false

-- a number of the grammar
pub record IsGrammatical (n : Numeral) : Type 0 where
  pub well_formed : IsNumeral n
  pub no_leading_zero : has_leading_zero n.integer ≡ false

-- the number is between two places
pub record NumeralAt (text : List ℕ) (at : ℕ) (n : Numeral) (end : ℕ) : Type 0 where
  pub grammatical : IsGrammatical n
  pub spelled : drop at text ≡ spelling n ++ drop end text
  pub within : end ≤ length text
  pub ends : EndsNumber n (drop end text)

-- the number of these parts is between two places
abbrev pub PartsAt : List ℕ → ℕ → NumberParts → ℕ → Type 0
PartsAt text at parts end = (n : Numeral) × (numeral_of parts ≡ plain n) × NumeralAt text at n end
