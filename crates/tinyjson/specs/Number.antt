-- What contracts use of numbers, by the names of the crate `tinyjson_number`, so that callers name one crate.
pub use Rattle.tinyjson_number.specs.Canonical.{IsDecimal}
pub use Rattle.tinyjson_number.specs.Decimal.{Decimal, zero_decimal}
pub use Rattle.tinyjson_number.specs.Integer.{whole_decimal, integer_decimal}
pub use Rattle.tinyjson_number.specs.Number.{decimal_eq, decimal_eq_Decides, number_eq}
pub use Rattle.tinyjson_number.specs.NumberText.{IsNumberText, Spells}
pub use Rattle.tinyjson_number.specs.Reading.{Reads}
pub use Rattle.tinyjson_number.specs.Text.{decimal_text}
pub use Rattle.tinyjson_number.specs.declared.number.JsonNumber.{JsonNumber}
