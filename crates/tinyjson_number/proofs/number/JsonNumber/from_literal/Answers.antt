use Rattle.std.proofs.Common.{sym, subst, arith}
use Rattle.tinyjson_number.specs.Numeral.{Numeral}
use Rattle.tinyjson_number.specs.NumberText.{Spells}
use Rattle.tinyjson_number.specs.Reading.{ReadsNumeral}
use Rattle.tinyjson_number.proofs.Scans.{one_numeral}
use Rattle.tinyjson_number.proofs.Parts.{spelled_room, parts_numeral, parts_read}
use Rattle.tinyjson_number.proofs.number.JsonNumber.from_literal.Goals as goal

pub from_parts-requires-clause-numeral : goal.from_parts-requires-clause-numeral
from_parts-requires-clause-numeral c = search (c.in-Some.ensures, parts_numeral)

pub from_parts-requires-clause-room : goal.from_parts-requires-clause-room
from_parts-requires-clause-room c = grind arith

pub unreachable-requires : goal.unreachable-requires
unreachable-requires c = c.in-None.ensures c.requires.0 (subst (Spells c.requires.0) (sym c.as_bytes.ensures.value) c.requires.1)

pub returns-clause-reads : goal.returns-clause-reads
returns-clause-reads c = λ n s.
    let t = c.as_bytes.result.now in
    let k = c.in-Some.ensures in
    let spelled = subst (Spells k.0) c.as_bytes.ensures.value k.2 in
    let read = parts_read k.0 c.in-Some.parts k.1 c.from_parts.result c.from_parts.ensures.reads in
    subst (λ (m : Numeral). ReadsNumeral m c.from_parts.result) (one_numeral c.args.literal.now k.0 n spelled s) read

pub returns-clause-short : goal.returns-clause-short
returns-clause-short c = grind (arith, spelled_room)
