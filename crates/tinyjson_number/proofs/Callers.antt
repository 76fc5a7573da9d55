-- For proofs of callers: of digits, decimals and the texts that spell them.
pub use Rattle.tinyjson_number.proofs.Naturals.{digits_append, natural, natural_decimal}
pub use Rattle.tinyjson_number.proofs.Canonicals.{value_canonical}
pub use Rattle.tinyjson_number.proofs.DecimalTrip.{decimal_fits, decimal_spelled, fraction_some}
pub use Rattle.tinyjson_number.proofs.Parts.{parts_numeral, parts_read, spelling_room}
pub use Rattle.tinyjson_number.proofs.Integers.{magnitude_of, magnitude_whole, negative_whole}
pub use Rattle.tinyjson_number.proofs.Laws.{one_decimal, text_is_number, wider_fits}
pub use Rattle.tinyjson_number.proofs.Layouts.{decimal_ascii, spelling_ascii}
pub use Rattle.tinyjson_number.proofs.Scans.{one_numeral}
