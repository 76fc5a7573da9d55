-- What public contracts say of a number.
use Rattle.tinyjson_number.specs.Decimal.{Decimal}
use Rattle.tinyjson_document.specs.declared.number.NumberView.{NumberView}
use Rattle.tinyjson_document.specs.declared.number.NumberView.TheVariants.{Kept, Made}

-- the decimal of a number, kept or made
abbrev pub decimal_of : NumberView → Decimal
decimal_of (Kept n) = n.now.decimal
decimal_of (Made n) = n.decimal
