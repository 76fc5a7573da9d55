use Rattle.std.proofs.Common.{refl}
use Rattle.std.proofs.lemmas.Grind.{put_two}
use Rattle.tinyjson_grammar.proofs.error.JsonParseErrorKindDisplay.fmt.Goals as goal

pub returns-in-ExpectedColon-clause-writes : goal.returns-in-ExpectedColon-clause-writes
returns-in-ExpectedColon-clause-writes g c = rw c.in-ExpectedColon.is c.fmt.ensures.writes

pub returns-in-ExpectedCommaOrBrace-clause-writes : goal.returns-in-ExpectedCommaOrBrace-clause-writes
returns-in-ExpectedCommaOrBrace-clause-writes g c = rw c.in-ExpectedCommaOrBrace.is c.fmt-in-ExpectedCommaOrBrace.ensures.writes

pub returns-in-ExpectedCommaOrBracket-clause-writes : goal.returns-in-ExpectedCommaOrBracket-clause-writes
returns-in-ExpectedCommaOrBracket-clause-writes g c = rw c.in-ExpectedCommaOrBracket.is c.fmt-in-ExpectedCommaOrBracket.ensures.writes

pub returns-in_ok-write_str-in-InvalidHexDigit-clause-writes : goal.returns-in_ok-write_str-in-InvalidHexDigit-clause-writes
returns-in_ok-write_str-in-InvalidHexDigit-clause-writes g c = λ plain ok.
    let front = c.in_ok-write_str-in-InvalidHexDigit.ensures.writes plain refl in
    let back = c.write-in-InvalidHexDigit.ensures.writes front.plain ok in
    put_two g.W.Write.write_str_gives _ _ _ _ _ _ front back (rw c.in-InvalidHexDigit.is refl)
