-- Wrong errors: the contract of `parse` refuses just these. Each names the wrong kind with what it says was consumed and left,
-- and is refuted by the right error of the list, of which there is one.
use Rattle.std.proofs.Common.{◌≡◌, ℕ, true, false, List, [], ◌∷◌, ◌++◌, Option, None, Some, refl, subst, ap, sym, ◌∙◌, ⊎_elim, append-nil}
use Rattle.std.proofs.Common.{map, arith, length, ◌==◌}
use Rattle.std.specs.Prelude.{codes, ⊤}
use Rattle.std.specs.List.{list_all}
use Rattle.std.specs.Str.{all_scalars}
use Rattle.std.proofs.lemmas.Bool.{false≢true}
use Rattle.tinyjson_grammar.specs.Characters.{is_white}
use Rattle.tinyjson_grammar.specs.Machine.{strictly, awaited, refused, run, step, end}
use Rattle.tinyjson_grammar.specs.Prefix.{IsErrorFree}
use Rattle.tinyjson_grammar.specs.Refusal.{IsRefusal, RefusalSays, MayGrow, begins_growth, is_late, AreLate, IsPromptly}
use Rattle.tinyjson_grammar.specs.Syntax.{AreWhite}
use Rattle.tinyjson_grammar.specs.declared.error.JsonParseErrorKind.{JsonParseErrorKind}
use Rattle.tinyjson_grammar.specs.declared.error.JsonParseErrorKind.TheVariants as error
use Rattle.tinyjson_grammar.specs.declared.kind.JsonKind.TheVariants as kind
use Rattle.tinyjson.proofs.Callers.{all_are_scalars}
use Rattle.tinyjson_number.specs.Numeral.{power_fits, value}
use Rattle.tinyjson_laws.proofs.Examples.Reading.{refusal_of}
use Rattle.tinyjson_laws.proofs.PrefixLaws.{same_first}
use Rattle.tinyjson_laws.proofs.RefusalLaws.{one_refusal}

-- the right error k of the list, which has consumed `used`, rules out another one
refuted : {limit : Option ℕ} {j : JsonParseErrorKind} {others left : List ℕ} (k : JsonParseErrorKind) (used rest : List ℕ) →
    all_scalars (used ++ rest) ≡ true → used ++ rest ≡ others ++ left → run (strictly limit) [] awaited (used ++ rest) ≡ refused k rest →
    ((k ≡ j) × (used ≡ others) → ⊥) → ¬ IsRefusal limit j others left
refuted {limit} {j} {others} {left} k used rest scalars e right differ wrong =
    differ (one_refusal limit k j used rest others left (all_are_scalars (used ++ rest) scalars) e (refusal_of scalars right) wrong)

-- ---- letters of a literal are no exponent

literals_without_exponent : ¬ RefusalSays None error.EmptyExponent (codes "true") (codes "x")
    × ¬ RefusalSays None error.EmptyExponent (codes "[true") (codes "false]")
    × ¬ RefusalSays None error.EmptyExponent (codes "[false") (codes "x")
    × ¬ RefusalSays None error.EmptyExponent (codes "[true") []
unfolding run step end value power_fits
literals_without_exponent = (
  refuted (error.ExpectedEof 120) (codes "truex") [] refl refl refl (λ e. cc),
  refuted (error.ExpectedCommaOrBracket 102) (codes "[truef") (codes "alse]") refl refl refl (λ e. cc),
  refuted (error.ExpectedCommaOrBracket 120) (codes "[falsex") [] refl refl refl (λ e. cc),
  refuted error.UnexpectedEof (codes "[true") [] refl refl refl (λ e. cc),
)

-- ---- digits of an escape are no number

escapes_without_numbers : ¬ RefusalSays None error.EmptyExponent (codes "\"\\u00e") (codes "\"")
    × ¬ RefusalSays None error.EmptyExponent (codes "\"\\u0e") (codes "g1\"")
    × ¬ RefusalSays None error.LeadingZero (codes "\"\\ud800\\u00") (codes "\"")
    × ¬ RefusalSays None error.LeadingZero (codes "{[\"\\u00") (codes "g")
unfolding run step end value power_fits
escapes_without_numbers = (
  refuted (error.InvalidHexDigit 34) (codes "\"\\u00e\"") [] refl refl refl (λ e. cc),
  refuted (error.InvalidHexDigit 103) (codes "\"\\u0eg") (codes "1\"") refl refl refl (λ e. cc),
  refuted (error.InvalidHexDigit 34) (codes "\"\\ud800\\u00\"") [] refl refl refl (λ e. cc),
  refuted (error.InvalidHexDigit 103) (codes "{[\"\\u00g") [] refl refl refl (λ e. cc),
)

-- ---- nothing is read past a key that is not a string

nothing_past_a_wrong_key : ¬ RefusalSays None (error.ExpectedColon 125) (codes "{1}") []
    × ¬ RefusalSays None (error.ExpectedColon 44) (codes "{1,") (codes "2}")
    × ¬ RefusalSays None (error.ExpectedColon 91) (codes "{null[") []
unfolding run step end value power_fits
nothing_past_a_wrong_key = (
  refuted (error.KeyNotString kind.Number) (codes "{1") (codes "}") refl refl refl (λ e. cc),
  refuted (error.KeyNotString kind.Number) (codes "{1") (codes ",2}") refl refl refl (λ e. cc),
  refuted (error.KeyNotString kind.Null) (codes "{null") (codes "[") refl refl refl (λ e. cc),
)

-- ---- nothing is read past a surrogate without its partner

nothing_past_a_surrogate : ¬ RefusalSays None (error.InvalidEscape 113) (codes "\"\\ud800abc\\q") []
    × ¬ RefusalSays None error.UnexpectedEof (codes "\"\\ud800abc") []
    × ¬ RefusalSays None (error.ControlCharacter 1) (codes "\"\\udc00u\u{1}") []
    × ¬ RefusalSays None error.InvalidUtf16 (codes "\"\\ud800") (codes "\\q")
unfolding run step end value power_fits
nothing_past_a_surrogate = (
  refuted error.InvalidUtf16 (codes "\"\\ud800a") (codes "bc\\q") refl refl refl (λ e. cc),
  refuted error.InvalidUtf16 (codes "\"\\ud800a") (codes "bc") refl refl refl (λ e. cc),
  refuted error.InvalidUtf16 (codes "\"\\udc00u") (codes "\u{1}") refl refl refl (λ e. cc),
  refuted (error.InvalidEscape 113) (codes "\"\\ud800\\q") [] refl refl refl (λ e. cc),
)

-- ---- nothing is read past a leading zero

nothing_past_a_leading_zero : ¬ RefusalSays None error.EmptyExponent (codes "[01e+") (codes "x")
    × ¬ RefusalSays None error.LeadingZero (codes "[01e00") (codes " x")
    × ¬ RefusalSays None error.NumberOutOfRange (codes "[01e99999999999999999999") (codes "]")
    × ¬ RefusalSays None (error.InvalidCharacter 120) (codes "[01,") (codes "x")
    × ¬ RefusalSays None (error.KeyNotString kind.Number) (codes "{0") (codes "1:2}")
unfolding run step end value power_fits
nothing_past_a_leading_zero = (
  refuted error.LeadingZero (codes "[01") (codes "e+x") refl refl refl (λ e. cc),
  refuted error.LeadingZero (codes "[01") (codes "e00 x") refl refl refl (λ e. let n : 3 ≡ 6 = ap length e.1 in omega (arith, n)),
  refuted error.LeadingZero (codes "[01") (codes "e99999999999999999999]") refl refl refl (λ e. cc),
  refuted error.LeadingZero (codes "[01") (codes ",x") refl refl refl (λ e. cc),
  refuted error.LeadingZero (codes "{01") (codes ":2}") refl refl refl (λ e. cc),
)

-- ---- a token is determined by where it begins

tokens_by_their_beginnings : ¬ RefusalSays None error.EmptyInteger (codes "[1e-") (codes "]")
    × ¬ RefusalSays None error.EmptyInteger (codes "0e-") (codes "]")
    × ¬ RefusalSays None (error.InvalidEscape 1) (codes "\"\\\\\u{1}") []
    × ¬ RefusalSays None (error.InvalidHexDigit 1) (codes "\"\\\\u\u{1}") []
    × ¬ RefusalSays None error.LeadingZero (codes "{[100") (codes "x")
    × ¬ RefusalSays None (error.KeyNotString kind.Number) (codes "{[\"{1") []
    × ¬ RefusalSays None error.NumberOutOfRange (codes "[0.01e9223372036854775808") (codes "x")
    × ¬ RefusalSays None error.EmptyInteger (codes "\"a-") []
unfolding run step end value power_fits
tokens_by_their_beginnings = (
  refuted error.EmptyExponent (codes "[1e-") (codes "]") refl refl refl (λ e. cc),
  refuted error.EmptyExponent (codes "0e-") (codes "]") refl refl refl (λ e. cc),
  refuted (error.ControlCharacter 1) (codes "\"\\\\\u{1}") [] refl refl refl (λ e. cc),
  refuted (error.ControlCharacter 1) (codes "\"\\\\u\u{1}") [] refl refl refl (λ e. cc),
  refuted (error.ExpectedCommaOrBracket 120) (codes "{[100x") [] refl refl refl (λ e. cc),
  refuted error.UnexpectedEof (codes "{[\"{1") [] refl refl refl (λ e. cc),
  refuted (error.ExpectedCommaOrBracket 120) (codes "[0.01e9223372036854775808x") [] refl refl refl (λ e. cc),
  refuted error.UnexpectedEof (codes "\"a-") [] refl refl refl (λ e. cc),
)

-- ---- an end in the middle of a number, or after a wrong key

no_end : ¬ RefusalSays None error.UnexpectedEof (codes "-") []
    × ¬ RefusalSays None error.UnexpectedEof (codes "0.") []
    × ¬ RefusalSays None error.UnexpectedEof (codes "0e") []
    × ¬ RefusalSays None error.UnexpectedEof (codes "00") []
    × ¬ RefusalSays None error.UnexpectedEof (codes "{1") []
unfolding run step end value power_fits
no_end = (
  refuted error.EmptyInteger (codes "-") [] refl refl refl (λ e. cc),
  refuted error.EmptyFraction (codes "0.") [] refl refl refl (λ e. cc),
  refuted error.EmptyExponent (codes "0e") [] refl refl refl (λ e. cc),
  refuted error.LeadingZero (codes "00") [] refl refl refl (λ e. cc),
  refuted (error.KeyNotString kind.Number) (codes "{1") [] refl refl refl (λ e. cc),
)

-- ---- the place of an error

other_places : ¬ RefusalSays None (error.UnexpectedInLiteral 120) (codes "trux true") []
    × ¬ RefusalSays None (error.InvalidCharacter 93) [] (codes "[1,]")
    × ¬ RefusalSays None error.LeadingZero [] (codes "0123]")
    × ¬ RefusalSays None (error.InvalidCharacter 93) (codes "[1,]") []
    × ¬ RefusalSays None (error.KeyNotString kind.Number) (codes "{1 ") []
unfolding run step end value power_fits
other_places = (
  refuted (error.UnexpectedInLiteral 120) (codes "trux") (codes " true") refl refl refl (λ e. let n : 4 ≡ 9 = ap length e.1 in omega
      (arith, n)),
  refuted (error.InvalidCharacter 93) (codes "[1,") (codes "]") refl refl refl (λ e. let n : 3 ≡ 0 = ap length e.1 in omega (arith, n)),
  refuted error.LeadingZero (codes "0123") (codes "]") refl refl refl (λ e. let n : 4 ≡ 0 = ap length e.1 in omega (arith, n)),
  refuted (error.InvalidCharacter 93) (codes "[1,") (codes "]") refl refl refl (λ e. let n : 3 ≡ 4 = ap length e.1 in omega (arith, n)),
  refuted (error.KeyNotString kind.Number) (codes "{1") (codes " ") refl refl refl (λ e. let n : 2 ≡ 3 = ap length e.1 in omega (arith, n)),
)

-- ---- kinds that stand for one another

other_kinds : ¬ RefusalSays None error.UnexpectedEof (codes "1 2") []
    × ¬ RefusalSays None (error.InvalidCharacter 120) (codes "[1 ") (codes "x")
    × ¬ RefusalSays None (error.InvalidCharacter 120) (codes "tru") (codes "x")
    × ¬ RefusalSays None (error.ExpectedCommaOrBracket 120) (codes "[x") []
    × ¬ RefusalSays None (error.ExpectedCommaOrBracket 1) (codes "[\"a\u{1}") []
    × ¬ RefusalSays None (error.ExpectedCommaOrBrace 44) (codes "{\"a\",") []
    × ¬ RefusalSays (Some 1) (error.InvalidCharacter 91) (codes "[") (codes "[1]]")
    × ¬ RefusalSays None (error.TooDeep 91) (codes "[") (codes "[]x")
unfolding run step end value power_fits
other_kinds = (
  refuted (error.ExpectedEof 50) (codes "1 2") [] refl refl refl (λ e. cc),
  refuted (error.ExpectedCommaOrBracket 120) (codes "[1 x") [] refl refl refl (λ e. cc),
  refuted (error.UnexpectedInLiteral 120) (codes "trux") [] refl refl refl (λ e. cc),
  refuted (error.InvalidCharacter 120) (codes "[") (codes "x") refl refl refl (λ e. cc),
  refuted (error.ControlCharacter 1) (codes "[\"a\u{1}") [] refl refl refl (λ e. cc),
  refuted (error.ExpectedColon 44) (codes "{\"a\",") [] refl refl refl (λ e. cc),
  refuted (error.TooDeep 91) (codes "[") (codes "[1]]") refl refl refl (λ e. cc),
  refuted (error.ExpectedCommaOrBracket 120) (codes "[[]x") [] refl refl refl (λ e. cc),
)

-- ---- memory

-- no memory is needed before a character that begins no string, no number and no container
grows_not : (c : ℕ) (xs : List ℕ) → is_white c ≡ false → begins_growth c ≡ false → ¬ MayGrow (c ∷ xs)
grows_not c xs n g m = by m.before m.whole m.white
  where
    by : (w : List ℕ) → c ∷ xs ≡ w ++ m.first ∷ m.more → AreWhite w → ⊥
    by [] e w =
        let f : begins_growth m.first ≡ true = m.grows in
        false≢true (sym g ∙ (ap begins_growth (same_first c m.first xs m.more e) ∙ f))
    by (d ∷ ds) e w =
        let f : is_white d ≡ true = w.0 in
        false≢true (sym n ∙ (ap is_white (same_first c d xs (ds ++ m.first ∷ m.more) e) ∙ f))

memory_for_true : (used rest : List ℕ) → used ++ rest ≡ codes "true" → ¬ RefusalSays None error.OutOfMemory used rest
memory_for_true used rest e r = grows_not 116 (codes "rue") refl refl (subst MayGrow e r.1)

memory_for_a_wrong_character : (used rest : List ℕ) → used ++ rest ≡ codes "x" → ¬ RefusalSays None error.OutOfMemory used rest
memory_for_a_wrong_character used rest e r = grows_not 120 [] refl refl (subst MayGrow e r.1)

-- no memory is needed after a character that no text of the loose grammar has there
memory_after_a_text : ¬ RefusalSays None error.OutOfMemory (codes "[1]x") []
unfolding run step end value power_fits
memory_after_a_text r =
    let right : IsRefusal None (error.ExpectedEof 120) (codes "[1]x") [] = refusal_of refl refl in
    right.says.1.1 r.0.viable

memory_at_a_wrong_bracket : ¬ RefusalSays None error.OutOfMemory (codes "[1}") (codes "]")
unfolding run step end value power_fits
memory_at_a_wrong_bracket r =
    let right : IsRefusal None (error.ExpectedCommaOrBracket 125) (codes "[1}") (codes "]") = refusal_of refl refl in
    right.says.1.1 r.0.viable

-- what ends with a character that is not late is without error, where it is so promptly
not_all_late : (xs late : List ℕ) (c : ℕ) → is_late c ≡ false → xs ++ c ∷ [] ≡ late → AreLate late → ⊥
not_all_late xs late c n e a = go xs (subst AreLate (sym e) a)
  where
    go : (ys : List ℕ) → AreLate (ys ++ c ∷ []) → ⊥
    go [] b = let f : is_late c ≡ true = b.0 in false≢true (sym n ∙ f)
    go (y ∷ ys) b = go ys b.1

late_is_nothing : (xs prefix late : List ℕ) (c : ℕ) → is_late c ≡ false → xs ++ c ∷ [] ≡ prefix ++ late → AreLate late
    → xs ++ c ∷ [] ≡ prefix
late_is_nothing xs [] late c n e a = absurd (not_all_late xs late c n e a)
late_is_nothing [] (y ∷ []) late c n e a = ap (λ d. d ∷ []) (same_first c y [] late e)
late_is_nothing [] (y ∷ z ∷ zs) late c n e a = absurd cc
late_is_nothing (x ∷ xs) (y ∷ ys) late c n e a =
    let tail : xs ++ c ∷ [] ≡ ys ++ late = cc in
    let rest = late_is_nothing xs ys late c n tail a in
    ap (λ d. d ∷ (xs ++ c ∷ [])) (same_first x y (xs ++ c ∷ []) (ys ++ late) e) ∙ ap (λ zs. y ∷ zs) rest

error_free_at_once : {limit : Option ℕ} (xs : List ℕ) (c : ℕ) → is_late c ≡ false → IsPromptly limit (xs ++ c ∷ []) []
    → IsErrorFree limit (xs ++ c ∷ [])
error_free_at_once {limit} xs c n p =
    let whole = p.whole ∙ ap (λ ys. p.prefix ++ ys) (append-nil p.late) in
    subst (IsErrorFree limit) (sym (late_is_nothing xs p.prefix p.late c n whole p.are_late)) p.error_free

-- a list without a quote ends in no string
abbrev HasNoQuote : List ℕ → Type 0
HasNoQuote [] = ⊤
HasNoQuote (c ∷ cs) = ((c == 34) ≡ false) × HasNoQuote cs

in_no_string : (xs prefix more : List ℕ) → HasNoQuote xs → xs ≡ prefix ++ 34 ∷ more → ⊥
in_no_string xs prefix more n e = go prefix (subst HasNoQuote e n)
  where
    go : (ys : List ℕ) → HasNoQuote (ys ++ 34 ∷ more) → ⊥
    go [] m = false≢true (sym m.0)
    go (y ∷ ys) m = go ys m.1

-- nothing is read past a leading zero, for want of memory too
memory_past_a_leading_zero : ¬ RefusalSays None error.OutOfMemory (codes "[01,") (codes "2]")
unfolding run step end value power_fits
memory_past_a_leading_zero r =
    let right : IsRefusal None error.LeadingZero (codes "[01") (codes ",2]") = refusal_of refl refl in
    ⊎_elim (λ p. right.not_too_soon 44 (codes "2]") refl (error_free_at_once (codes "[01") 44 refl p))
    (λ k. let begins = k.0.4.begins in in_no_string (codes "[01,") begins.prefix _ (refl, (refl, (refl, (refl, tt)))) begins.whole)
    r.0.place

-- which characters are late
digits_are_late : list_all is_late (codes "0123456789abcdefABCDEF") ≡ true
digits_are_late = refl

letters_and_signs_are_late : list_all is_late (codes "u\\+-") ≡ true
letters_and_signs_are_late = refl

others_are_not_late : map is_late (codes ",.:x gU/\"") ≡ map (λ c. false) (codes ",.:x gU/\"")
others_are_not_late = refl
