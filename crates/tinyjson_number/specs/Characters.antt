-- The characters of numbers (RFC 8259, section 6), by their codes.
use Rattle.std.specs.Prelude.{ℕ}

abbrev pub digit_zero : ℕ
digit_zero = 48

abbrev pub minus_sign : ℕ
minus_sign = 45

abbrev pub plus_sign : ℕ
plus_sign = 43

abbrev pub decimal_point : ℕ
decimal_point = 46

abbrev pub letter_e : ℕ
letter_e = 101

abbrev pub capital_e : ℕ
capital_e = 69
