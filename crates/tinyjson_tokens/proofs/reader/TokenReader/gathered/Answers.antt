use Rattle.std.proofs.Common.{sym, subst}
use Rattle.tinyjson_number.proofs.Callers.{parts_numeral, parts_read}
use Rattle.tinyjson_tokens.specs.NumberSteps.{Gathered}
use Rattle.tinyjson_tokens.proofs.Reading.NumberParts.{parts_of, parts_plain}
use Rattle.tinyjson_tokens.proofs.reader.TokenReader.gathered.Goals as goal

pub from_parts-requires-clause-numeral : goal.from_parts-requires-clause-numeral
from_parts-requires-clause-numeral g c =
    let n = c.requires.gathered.0 in
    let has = subst (Gathered n) (sym c.as_bytes-digits.ensures.value) c.requires.gathered.1 in
    parts_numeral n (parts_of c.as_bytes-digits.result.now c.args.marks c.exponent_parts.result)
    (parts_plain n _ c.args.marks has c.requires.gathered.2 c.exponent_parts.result c.exponent_parts.ensures) has.well_formed

pub returns : goal.returns
returns g c = λ n s at.
    let has = subst (Gathered n) (sym c.as_bytes-digits.ensures.value) s in
    parts_read n (parts_of c.as_bytes-digits.result.now c.args.marks c.exponent_parts.result)
    (parts_plain n _ c.args.marks has at c.exponent_parts.result c.exponent_parts.ensures) c.from_parts.result c.from_parts.ensures.reads
