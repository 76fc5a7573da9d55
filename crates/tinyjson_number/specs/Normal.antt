-- Numbers whose texts are those of their decimals.
use Rattle.std.specs.Prelude.{◌≡◌, ◌≤◌, IsTrue, length, Ok, Option, None, Some}
use Rattle.tinyjson_number.specs.Numeral.{Numeral, in_range, spelling, value}
use Rattle.tinyjson_number.specs.Number.{Canonical}
use Rattle.tinyjson_number.specs.Reading.{ReadsNumeral}
use Rattle.tinyjson_number.specs.Text.{decimal_text}

pub record IsNormal (n : Numeral) : Type 0 where
  pub no_exponent : n.exponent ≡ None
  pub text : decimal_text (value n) ≡ spelling n
  pub fits : IsTrue (in_range (value n))
  pub short : length (spelling n) ≤ 24

-- a number that was made of the numeral, or was not, since its text is normal
abbrev pub IsReady : Numeral → Option Canonical → Type 0
IsReady n (Some x) = ReadsNumeral n (Ok x)
IsReady n None = IsNormal n
