use Rattle.std.proofs.Common.{sym, subst}
use Rattle.std.specs.Str.{IsAscii}
use Rattle.tinyjson_number.proofs.Layouts.{decimal_ascii}
use Rattle.tinyjson_number.proofs.text.JsonNumberDisplay.fmt.Goals as goal

pub write_layout-requires : goal.write_layout-requires
write_layout-requires g c = let n = c.args.self.now in subst IsAscii (sym c.layout.ensures) (decimal_ascii n.decimal n.canonical)
