-- Decimals and the texts that spell them.
use Rattle.std.proofs.Common.{ℕ, List, sym, ap, subst}
use Rattle.std.specs.Prelude.{IsTrue}
use Rattle.tinyjson_number.specs.Decimal.{Decimal}
use Rattle.tinyjson_number.specs.Numeral.{power_width, fits_in}
use Rattle.tinyjson_number.specs.Canonical.{IsDecimal, IsDecimalAt}
use Rattle.tinyjson_number.specs.NumberText.{IsNumberText}
use Rattle.tinyjson_number.specs.Text.{decimal_text}
use Rattle.tinyjson_number.proofs.Callers.{value_canonical}
use Rattle.tinyjson_number.proofs.Callers as number_laws
use Rattle.tinyjson_laws.specs.Numbers.{OneDecimal, DecimalsHaveTexts, DecimalReadsBack, SameDecimal}

pub one_decimal : OneDecimal
one_decimal text d e h j = number_laws.one_decimal power_width power_width text d e h j

pub decimal_reads_back : DecimalReadsBack
decimal_reads_back d h = number_laws.text_is_number power_width d h

spelled_canonical : (text : List ℕ) (d : Decimal) → IsNumberText text d → IsDecimal d
spelled_canonical text d h = subst (IsDecimalAt power_width) h.2
    (value_canonical power_width h.0 h.1.well_formed (subst (λ e. IsTrue (fits_in power_width e)) (sym h.2) h.3))

pub decimals_have_texts : DecimalsHaveTexts
decimals_have_texts d = (λ h. (decimal_text d, decimal_reads_back d h), λ p. spelled_canonical p.0 d p.1)

pub same_decimal : SameDecimal
same_decimal d e h j = (
  λ i. one_decimal (decimal_text e) d e (subst (λ t. IsNumberText t d) i (decimal_reads_back d h)) (decimal_reads_back e j),
  λ i. ap decimal_text i,
)
