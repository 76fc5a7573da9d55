-- The parts of a number, as the parser reads them. For contracts inside the parser.
use Rattle.std.specs.Prelude.{◌≡◌, ℕ, ◌+◌, ◌<◌, ◌⊎◌, ◌==◌, Bool, true, false, List, [], ◌∷◌, ◌++◌, length}
use Rattle.std.specs.Prelude.{Option, Some, None, Result, MatchResult, MatchBool, IfSome}
use Rattle.std.specs.Char.{is_ascii_digit}
use Rattle.std.specs.List.{AllByRecursion}
use Rattle.tinyjson_number.specs.Characters.{minus_sign}
use Rattle.tinyjson_number.specs.Numeral.{Numeral, Exponent, IsNumeral, has_leading_zero, is_sign, sign_text}
use Rattle.tinyjson_tokens.specs.Source.{Sight, Still, Takes}
use Rattle.tinyjson_grammar.specs.Machine.{Frame, Stage, Next, next, digits}
use Rattle.tinyjson_tokens.specs.Steps.{Ends, Leads, Refuses}
use Rattle.tinyjson_tokens.specs.declared.number.Marks.{Marks}
use Rattle.tinyjson_grammar.specs.declared.error.JsonParseErrorKind.{JsonParseErrorKind}
use Rattle.tinyjson_grammar.specs.declared.error.JsonParseErrorKind.TheVariants.{OutOfMemory}

-- a minus sign or a digit comes next
abbrev pub BeginsNumber : {S : Type 0} → Sight S → S → Type 0
BeginsNumber sight p = (c : ℕ) × sight.shows p (Some c) × ((c ≡ minus_sign) ⊎ (is_ascii_digit c ≡ true))

-- whether it is below zero, where there is one
abbrev pub is_minus : Option ℕ → Bool
is_minus None = false
is_minus (Some c) = c == minus_sign

abbrev pub is_below_zero : Option Exponent → Option Bool
is_below_zero None = None
is_below_zero (Some e) = Some (is_minus e.sign)

-- the digits of a number, those of one part after those of the other
abbrev pub exponent_digits : Option Exponent → List ℕ
exponent_digits None = []
exponent_digits (Some e) = e.digits

abbrev pub all_digits : Numeral → List ℕ
all_digits n = n.integer ++ (n.fraction ++ exponent_digits n.exponent)

-- what a number has besides its digits
abbrev pub marks_of : Numeral → Marks
marks_of n = record {
  negative = n.negative;
  integer = length n.integer;
  fraction = length n.integer + length n.fraction;
  exponent = is_below_zero n.exponent;
}

-- the digits of that number of the grammar
pub record Gathered (n : Numeral) (text : List ℕ) : Type 0 where
  pub well_formed : IsNumeral n
  pub no_leading_zero : has_leading_zero n.integer ≡ false
  pub gathered : all_digits n ≡ text

module _ {S : Type 0} (sight : Sight S) where
  -- a character came next that passes the test, and was taken
  pub record Accepted (test : ℕ → Bool) (p q : S) : Type 0 where
    pub c : ℕ
    pub one : test c ≡ true
    pub takes : Takes sight p (c ∷ []) q

  -- none came next that passes it
  pub record Declined (test : ℕ → Bool) (p q : S) : Type 0 where
    pub o : Option ℕ
    pub shows : sight.shows q o
    pub none : IfSome o (λ c. test c ≡ false)
    pub still : Still sight p q
    pub takes : Takes sight p [] q

  -- The next character was taken if it passes the test.
  abbrev pub Accepts : (ℕ → Bool) → S → Bool → S → Type 0
  Accepts test p b q = MatchBool b (Accepted test p q) (Declined test p q)

  -- the sign of an exponent was taken, if there was one
  pub record Signs (p : S) (negative : Bool) (q : S) : Type 0 where
    pub sign : Option ℕ
    pub known : IfSome sign (λ c. is_sign c ≡ true)
    pub minus : negative ≡ is_minus sign
    pub takes : Takes sight p (sign_text sign) q
    pub none : sign ≡ None → (o : Option ℕ) × sight.shows q o × IfSome o (λ c. is_sign c ≡ false)

  -- Digits were taken and added to a text, until no digit came. There was one at least, or the error is of
  -- that kind; or there was no memory.
  pub record Digits (empty : JsonParseErrorKind) (p : S) (old : List ℕ) (r : Result (Unit {0}) JsonParseErrorKind)
      (new : List ℕ) (q : S) : Type 0 where
    pub ds : List ℕ
    pub digits : AllByRecursion (λ c. is_ascii_digit c ≡ true) ds
    pub takes : Takes sight p ds q
    pub result : MatchResult r (λ _. (new ≡ old ++ ds) × (0 < length ds) × Ends sight q)
        (λ k. ((k ≡ empty) × (ds ≡ []) × Ends sight q × Still sight p q) ⊎ (k ≡ OutOfMemory))

  -- A part of a number was read. The text now has the digits of a numeral of that form, the machine came to it in that stage, and no
  -- digit comes next.
  pub record Part {A T : Type 0} (answer : Numeral → T) (form : A → Numeral) (stage : Stage) (p : S) (before : List Frame → Next) (v : T)
      (new : List ℕ) (q : S) : Type 0 where
    pub part : A
    pub has : Gathered (form part) new
    pub answers : v ≡ answer (form part)
    pub ends : Ends sight q
    pub leads : (limit : Option ℕ) (fs : List Frame) → Leads sight limit p (before fs) q (next fs (digits stage (form part)))

  abbrev pub ReadsPart : {A T : Type 0} → (Numeral → T) → (A → Numeral) → Stage → S → (List Frame → Next) →
      Result T JsonParseErrorKind → List ℕ → S → Type 0
  ReadsPart answer form stage p before r new q = MatchResult r (λ v. Part answer form stage p before v new q)
      (λ k. (limit : Option ℕ) (fs : List Frame) → Refuses sight limit p (before fs) k q)
