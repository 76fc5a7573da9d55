-- Numbers: literals and their decimals (RFC 8259, section 6).
use Rattle.std.proofs.Common.{◌≡◌, true, false, [], ◌∷◌, ◌++◌, replicate, None, pos, negsuc, refl}
use Rattle.std.specs.Prelude.{codes}
use Rattle.std.specs.Int.{w32, w64}
use Rattle.tinyjson_grammar.specs.Grammar.{IsText}
use Rattle.tinyjson_grammar.specs.Machine.{run, step, end}
use Rattle.tinyjson_grammar.specs.Refusal.{IsRefusal}
use Rattle.tinyjson_grammar.specs.declared.error.JsonParseErrorKind.TheVariants as error
use Rattle.tinyjson_number.specs.Numeral.{power_fits, value}
use Rattle.tinyjson_laws.proofs.Examples.Reading.{text_of, refusal_of, decimal, whole, zero, array}

decimals :
    IsText None (codes "[0,-0,0.000,0E+00,0e99999999999,-0.0e-5]") (array (zero ∷ zero ∷ zero ∷ zero ∷ zero ∷ zero ∷ []))
    × IsText None (codes "[15,1.50e1,0.15E+2,150e-1]") (array (whole (codes "15") ∷ whole (codes "15") ∷ whole (codes "15") ∷ whole (codes
    "15") ∷ []))
    × IsText None (codes "1200") (decimal false (codes "12") (pos 2))
    × IsText None (codes "3.14") (decimal false (codes "314") (negsuc 1))
    × IsText None (codes "-12.30e-1") (decimal true (codes "123") (negsuc 1))
    × IsText None (codes "0.00120") (decimal false (codes "12") (negsuc 3))
    × IsText None (codes "10.50e-1") (decimal false (codes "105") (negsuc 1))
    × IsText None (codes "100e-2") (whole (codes "1"))
    × IsText None (codes "1e00000000000000000000005") (decimal false (codes "1") (pos 5))
    × IsText None (codes "1E+05") (decimal false (codes "1") (pos 5))
    × IsText None (codes "[1e400,1e-400]") (array ((decimal false (codes "1") (pos 400)) ∷ (decimal false (codes "1") (negsuc 399)) ∷ []))
    × IsText None (codes "0." ++ (replicate 30 48 ++ codes "1e30")) (decimal false (codes "1") (negsuc 0))
    × IsText None (codes "0e" ++ replicate 40 57) zero
unfolding run step end value power_fits
decimals = (
  text_of refl refl,
  text_of refl refl,
  text_of refl refl,
  text_of refl refl,
  text_of refl refl,
  text_of refl refl,
  text_of refl refl,
  text_of refl refl,
  text_of refl refl,
  text_of refl refl,
  text_of refl refl,
  text_of refl refl,
  text_of refl refl,
)

-- ---- the range of powers of ten

powers_in_range :
    IsText None (codes "1e9223372036854775807") (decimal false (codes "1") (pos 9223372036854775807))
    × IsText None (codes "10e-9223372036854775809") (decimal false (codes "1") (negsuc 9223372036854775807))
    × IsText None (codes "0.1e9223372036854775808") (decimal false (codes "1") (pos 9223372036854775807))
unfolding run step end value power_fits
powers_in_range = (text_of refl refl, text_of refl refl, text_of refl refl)

powers_out_of_range :
    IsRefusal None error.NumberOutOfRange (codes "1e9223372036854775808") []
    × IsRefusal None error.NumberOutOfRange (codes "[1e-9223372036854775809") (codes "]")
    × IsRefusal None error.NumberOutOfRange (codes "1e-9223372036854775809") []
    × IsRefusal None error.NumberOutOfRange (codes "1e" ++ replicate 40 57) []
unfolding run step end value power_fits
powers_out_of_range = (refusal_of refl refl, refusal_of refl refl, refusal_of refl refl, refusal_of refl refl)

narrow_range : unfold power_fits in
    (power_fits w32 (pos 2147483647) ≡ true)
    × (power_fits w32 (pos 2147483648) ≡ false)
    × (power_fits w32 (negsuc 2147483648) ≡ false)
unfolding power_fits
narrow_range = (refl, refl, refl)

wide_range : unfold power_fits in
    (power_fits w64 (pos 2147483648) ≡ true)
    × (power_fits w64 (pos 9223372036854775808) ≡ false)
    × (power_fits w64 (negsuc 9223372036854775808) ≡ false)
unfolding power_fits
wide_range = (refl, refl, refl)

-- ---- what is no number

no_numbers :
    IsRefusal None error.EmptyInteger (codes "-") []
    × IsRefusal None error.EmptyInteger (codes "-") (codes " 1")
    × IsRefusal None (error.InvalidCharacter 43) [] (codes "+1")
    × IsRefusal None error.LeadingZero (codes "0123") (codes "]")
    × IsRefusal None error.LeadingZero (codes "[01") (codes ",x")
    × IsRefusal None error.LeadingZero (codes "01") (codes ".5")
    × IsRefusal None error.LeadingZero (codes "01") (codes ".")
    × IsRefusal None error.LeadingZero (codes "-00") []
    × IsRefusal None error.EmptyFraction (codes "[1.") (codes "]")
    × IsRefusal None error.EmptyFraction (codes "1.") (codes "e5")
    × IsRefusal None error.EmptyFraction (codes "1.") []
    × IsRefusal None (error.InvalidCharacter 46) [] (codes ".5")
    × IsRefusal None error.EmptyExponent (codes "1e") []
    × IsRefusal None error.EmptyExponent (codes "1e+") (codes "x")
    × IsRefusal None error.EmptyExponent (codes "1e+") (codes "-1")
    × IsRefusal None (error.ExpectedEof 120) (codes "0x") (codes "10")
unfolding run step end value power_fits
no_numbers = (
  refusal_of refl refl,
  refusal_of refl refl,
  refusal_of refl refl,
  refusal_of refl refl,
  refusal_of refl refl,
  refusal_of refl refl,
  refusal_of refl refl,
  refusal_of refl refl,
  refusal_of refl refl,
  refusal_of refl refl,
  refusal_of refl refl,
  refusal_of refl refl,
  refusal_of refl refl,
  refusal_of refl refl,
  refusal_of refl refl,
  refusal_of refl refl,
)
