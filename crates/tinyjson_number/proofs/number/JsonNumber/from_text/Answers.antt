use Rattle.std.proofs.Common.{sym, subst, arith}
use Rattle.tinyjson_number.specs.NumberText.{Spells}
use Rattle.tinyjson_number.proofs.Readings.{refused_so}
use Rattle.tinyjson_number.proofs.Parts.{spelled_room, parts_numeral, parts_read}
use Rattle.tinyjson_number.proofs.number.JsonNumber.from_text.Goals as goal

pub from_parts-requires-clause-numeral : goal.from_parts-requires-clause-numeral
from_parts-requires-clause-numeral c = search (c.in-Some.ensures, parts_numeral)

pub from_parts-requires-clause-room : goal.from_parts-requires-clause-room
from_parts-requires-clause-room c = grind arith

pub returns-in-None-clause-reads : goal.returns-in-None-clause-reads
returns-in-None-clause-reads c = λ n s. c.in-None.ensures n (subst (Spells n) (sym c.as_bytes.ensures.value) s)

pub returns-in_ok-from_parts-in-Some-clause-reads : goal.returns-in_ok-from_parts-in-Some-clause-reads
returns-in_ok-from_parts-in-Some-clause-reads c = let t = c.as_bytes.result.now in
    let k = c.in-Some.ensures in
    let spelled = subst (Spells k.0) c.as_bytes.ensures.value k.2 in
    let read = parts_read k.0 c.in-Some.parts k.1 c.from_parts.result c.from_parts.ensures.reads in
    grind arith

pub returns-in_err-from_parts-in-Some-clause-reads : goal.returns-in_err-from_parts-in-Some-clause-reads
returns-in_err-from_parts-in-Some-clause-reads c = let t = c.as_bytes.result.now in
    let k = c.in-Some.ensures in
    let spelled = subst (Spells k.0) c.as_bytes.ensures.value k.2 in
    let read = parts_read k.0 c.in-Some.parts k.1 c.from_parts.result c.from_parts.ensures.reads in
    grind (arith, refused_so)

pub returns-in_err-from_parts-in-Some-clause-short : goal.returns-in_err-from_parts-in-Some-clause-short
returns-in_err-from_parts-in-Some-clause-short c = grind (arith, spelled_room)
