use Rattle.std.proofs.Common.{sym, subst}
use Rattle.std.specs.Str.{IsAscii}
use Rattle.tinyjson_number.specs.Numeral.{power_width}
use Rattle.tinyjson_number.specs.Number.{digits_of}
use Rattle.tinyjson_number.proofs.Forms.{digits_of_form}
use Rattle.tinyjson_number.proofs.Runs.{digits_ascii}
use Rattle.tinyjson_number.proofs.number.JsonNumber.digits.Goals as goal

pub ascii_str-requires : goal.ascii_str-requires
ascii_str-requires c = let n = c.self.inside in subst IsAscii (sym c.as_bytes.ensures)
    (digits_ascii _ (digits_of_form power_width n.negative (digits_of n.digits) n.power n.canonical))
